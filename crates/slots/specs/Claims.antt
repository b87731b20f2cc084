-- Paper 02, #107, of slots that stand in any way, whatever is ready: whom a slot goes to, and that a channel which stays ready, at one
-- level other than 00, is passed over 111 times at most. Other channels may be ready or not and change their levels as they like, in
-- every slot.
use Rattle.std.specs.Prelude.{ℕ, suc, ◌+◌, ◌-◌, ◌*◌, ◌%◌, ◌≤◌, ◌<◌, Bool, true, false, List, [], ◌∷◌, Option, Some, None, ◌≢◌, ◌⊎◌, ◌≡◌, eqb, length}
use Rattle.words.specs.Choice.{pick}
use Rattle.slots.specs.declared.Slots.{Slots}
use Rattle.slots.specs.declared.Service.{Service}
use Rattle.slots.specs.Slots.{Asks, of_level, reset_slots, ticked, idled, slot_level, begins, to_channel, chosen}

-- a level that is not 00, and a channel
pub record Levels (level c : ℕ) : Type 0 where
  pub channel : c < 16
  pub least : 1 ≤ level
  pub most : level ≤ 3

-- ---- one slot

unfoldable pub goes_to : ℕ → Option Service → Bool
goes_to c (Some v) = eqb c v.channel
goes_to c None = false

unfoldable pub leaves : Slots → Option Service → Slots
leaves s (Some v) = v.slots
leaves s None = s

-- whom the next tick serves, and how the slots stand after it
unfoldable pub service_of : Slots → Asks → Option Service
service_of s asks = chosen (ticked s) asks

unfoldable pub next : Slots → Asks → Slots
next s asks = leaves (ticked s) (service_of s asks)

-- how far the number c is above where the search of its level begins, wrapping: so many others may come before it
unfoldable pub others_before : Slots → ℕ → ℕ → ℕ
others_before s level c = (c + (16 - begins s level % 16)) % 16

abbrev pub NoneReady : Asks → ℕ → Type 0
NoneReady asks level = (c : ℕ) → c < 16 → asks level c ≡ false

-- what #107 says of a slot that goes to c and leaves t
pub record Turn (s : Slots) (asks : Asks) (c : ℕ) (t : Slots) : Type 0 where
  pub level : ℕ
  pub levels : Levels level c
  -- c is ready at that level
  pub ready : asks level c ≡ true
  -- it is the slot's own; or that has no ready channel, and none that is higher has one
  pub whose : (level ≡ slot_level s.slot) ⊎ (NoneReady asks (slot_level s.slot) × ((k : ℕ) → level < k → k ≤ 3 → NoneReady asks k))
  -- no other channel that is ready at it comes sooner after the level's last
  pub nearest : (d : ℕ) → d < 16 → asks level d ≡ true → others_before s level c ≤ others_before s level d
  -- then c is the level's last; the lasts of the others stay, and the slot
  pub last : begins t level ≡ (c + 1) % 16
  pub others : (k : ℕ) → 1 ≤ k → k ≤ 3 → k ≢ level → begins t k ≡ begins s k
  pub slot : t.slot ≡ s.slot

-- ---- lists of slots

unfoldable pub after : Slots → List Asks → Slots
after s [] = s
after s (a ∷ rest) = after (next s a) rest

-- c is ready at this level in every slot up to the one that goes to it
unfoldable pub Waits : ℕ → ℕ → Slots → List Asks → Type 0
Waits c level s [] = Unit {0}
Waits c level s (a ∷ rest) = (a level c ≡ true) × (goes_to c (service_of s a) ≡ false → Waits c level (next s a) rest)

-- the number of the slot that goes to c, from 1 on; where none does, one more than there are slots
unfoldable pub turn_of : ℕ → Slots → List Asks → ℕ
turn_of c s [] = 1
turn_of c s (a ∷ rest) = pick (goes_to c (service_of s a)) 1 (suc (turn_of c (next s a) rest))

-- ---- how long c can still be passed over

-- a slot of seven that is the level's own
unfoldable pub home : ℕ → ℕ
home level = of_level level 1 2 4

-- slots before the next that is it
unfoldable pub before_home : Slots → ℕ → ℕ
before_home s level = (home level + (6 - s.slot % 7)) % 7

-- at most so many slots pass c over
unfoldable pub patience : Slots → ℕ → ℕ → ℕ
patience s level c = before_home s level + 7 * others_before s level c

pub record OneService : Type 0 where
  -- a slot is served as #107 has it
  pub turns : (s t : Slots) (asks : Asks) (c : ℕ) → chosen s asks ≡ to_channel c t → Turn s asks c t
  -- it goes to nobody only where nobody is ready, and there it does
  pub idles : (s : Slots) (asks : Asks) → chosen s asks ≡ None → (level c : ℕ) → Levels level c → asks level c ≡ false
  pub nobody : (s : Slots) (asks : Asks) → ((level c : ℕ) → Levels level c → asks level c ≡ false) → chosen s asks ≡ None
  -- so a channel that is not ready is not served, and one that is served is one of sixteen
  pub unready : (s : Slots) (asks : Asks) (c : ℕ) → ((level : ℕ) → asks level c ≡ false) → goes_to c (service_of s asks) ≡ false
  pub sixteen : (s t : Slots) (asks : Asks) (c : ℕ) → chosen s asks ≡ to_channel c t → c < 16
  -- only what sixteen channels ask at the three levels counts, so that three words say it
  pub words : (s : Slots) (a b : Asks) → ((level c : ℕ) → Levels level c → a level c ≡ b level c) → chosen s a ≡ chosen s b
  -- each tick is a slot, whether it is served or not
  pub round : (slots : List Asks) → (after reset_slots slots).slot ≡ length slots % 7
  -- with no channel ready a tick only moves the slot, and so do several
  pub quiet : (s : Slots) (asks : Asks) → ((level c : ℕ) → Levels level c → asks level c ≡ false) → next s asks ≡ idled 1 s
  pub quiet-more : (s : Slots) (m n : ℕ) → idled (suc n) (idled (suc m) s) ≡ idled (suc m + suc n) s
  -- the bound of #107: of 112 slots one goes to c
  pub within : (s : Slots) (slots : List Asks) (level c : ℕ) → Levels level c → Waits c level s slots → 112 ≤ length slots → turn_of c s slots ≤ 112
  -- why: no patience is above 111, and a slot in which c is ready goes to c or leaves it less
  pub bounded : (s : Slots) (level c : ℕ) → patience s level c ≤ 111
  pub falls : (s : Slots) (asks : Asks) (level c : ℕ) → Levels level c → asks level c ≡ true
      → (goes_to c (service_of s asks) ≡ true) ⊎ (suc (patience (next s asks) level c) ≤ patience s level c)
