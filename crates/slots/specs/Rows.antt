-- Slots of paper 02, #107, computed: whom they go to, each row with what it must show. The figures come from a model written apart from
-- the definitions.
use Rattle.std.specs.Prelude.{ℕ, zero, suc, ◌+◌, ◌%◌, Bool, false, ◌||◌, List, [], ◌∷◌, ◌≡◌, eqb, Option, Some, None}
use Rattle.words.specs.Choice.{pick}
use Rattle.slots.specs.declared.Slots.{Slots}
use Rattle.slots.specs.declared.Service.{Service}
use Rattle.slots.specs.Slots.{Asks, reset_slots, to_channel, ticked, idled, slot_level}
use Rattle.slots.specs.Claims.{service_of, next, turn_of}

-- the levels of the next n slots
unfoldable pub levels : ℕ → Slots → List ℕ
levels zero s = []
levels (suc n) s = slot_level (ticked s).slot ∷ levels n (ticked s)

unfoldable pub is_in : ℕ → List ℕ → Bool
is_in c [] = false
is_in c (d ∷ rest) = eqb c d || is_in c rest

-- these channels are ready at high, these at middle and these at low
unfoldable pub ready : List ℕ → List ℕ → List ℕ → Asks
ready high middle low level c = is_in c (pick (eqb level 3) high (pick (eqb level 2) middle (pick (eqb level 1) low [])))

-- the channel, or 16 for nobody
unfoldable pub channel_of : Option Service → ℕ
channel_of (Some v) = v.channel
channel_of None = 16

-- whom the next n slots go to, the same channels being ready in all of them
unfoldable pub go_to : ℕ → Slots → Asks → List ℕ
go_to zero s asks = []
go_to (suc n) s asks = channel_of (service_of s asks) ∷ go_to n (next s asks) asks

-- from the slot k on: channel 15 is ready at low, the others at low in low slots and at high in all others
unfoldable pub against : ℕ → ℕ → List Asks
against zero k = []
against (suc n) k = (λ level c. pick (eqb c 15) (eqb level 1) (eqb level (pick (eqb k 4) 1 3))) ∷ against n ((k + 1) % 7)

pub record SlotRows : Type 0 where
  -- two rounds from reset
  pub row-levels : levels 14 reset_slots ≡ 3 ∷ 2 ∷ 3 ∷ 1 ∷ 3 ∷ 2 ∷ 3 ∷ 3 ∷ 2 ∷ 3 ∷ 1 ∷ 3 ∷ 2 ∷ 3 ∷ []
  -- two channels ready at each level: each slot goes to its own level, in turn
  pub row-busy : go_to 14 reset_slots (ready (1 ∷ 8 ∷ []) (2 ∷ 12 ∷ []) (4 ∷ 5 ∷ []))
      ≡ 1 ∷ 2 ∷ 8 ∷ 4 ∷ 1 ∷ 12 ∷ 8 ∷ 1 ∷ 2 ∷ 8 ∷ 5 ∷ 1 ∷ 12 ∷ 8 ∷ []
  -- low alone: all slots are its own, for two channels in turn, and for one
  pub row-alone : (go_to 5 reset_slots (ready [] [] (2 ∷ 9 ∷ [])) ≡ 2 ∷ 9 ∷ 2 ∷ 9 ∷ 2 ∷ [])
      × (go_to 7 reset_slots (ready [] [] (9 ∷ [])) ≡ 9 ∷ 9 ∷ 9 ∷ 9 ∷ 9 ∷ 9 ∷ 9 ∷ [])
  -- at reset the last is 15: 0 comes first, and 15 last
  pub row_ends : go_to 4 reset_slots (ready (0 ∷ 15 ∷ []) [] []) ≡ 0 ∷ 15 ∷ 0 ∷ 15 ∷ []
  -- the low slot of tick 4 goes to high before middle, the high slot of tick 1 to middle before low; the last is that of the level served
  pub row-handed : (service_of (idled 3 reset_slots) (ready (9 ∷ []) (2 ∷ []) []) ≡ to_channel 9 record { slot = 4; high = 10; middle = 0; low = 0 })
      × (service_of reset_slots (ready [] (9 ∷ []) (2 ∷ [])) ≡ to_channel 9 record { slot = 1; high = 0; middle = 10; low = 0 })
  -- nothing ready: the slot goes on, and no last changes
  pub row-idle : next record { slot = 6; high = 3; middle = 4; low = 5 } (ready [] [] []) ≡ record { slot = 0; high = 3; middle = 4; low = 5 }
  -- 112 is no more than is needed: ready from tick 5 on, channel 15 gets the 112th slot, and none of 111
  pub row-worst : (turn_of 15 (idled 4 reset_slots) (against 112 5) ≡ 112) × (turn_of 15 (idled 4 reset_slots) (against 111 5) ≡ 112)
