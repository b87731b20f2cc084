-- What each store does to the state that the words hold.
use Prim.Native.Nat.{ℕ, ◌+◌, ◌*◌, ◌<◌}
use mathlib.Core.Bool.{Bool, false}
use mathlib.Core.List.{List}
use mathlib.Core.Path.{◌≡◌, refl, sym, ap, ◌∙◌}
use mathlib.Core.Logic.{◌≢◌}
use native.Mathlib.Omega.{arith}
use lib.ListN.{length, get_or, set, length-set}
use Rattle.words.specs.declared.Timer.{Timer}
use Rattle.words.specs.declared.Timers.{Timers}
use Rattle.words.specs.Field.{with_field, bit_of, bit_value}
use Rattle.slots.specs.declared.Slots.{Slots}
use Rattle.motor.specs.declared.Way.{Way}
use Rattle.motor.specs.declared.Phase.TheVariants.{Resting, Armed, Matched}
use Rattle.unit.specs.declared.Channel.{Channel}
use Rattle.unit.specs.declared.Latches.{Latches}
use Rattle.unit.specs.TheUnit.{way_number, timer_number, latched, none, channel, with_words, with_word, with_reg, with_timers, with_pins, with_pin, with_channel, with_slots, with_initialised, with_set_up, with_level, with_phase, with_binding, with_late}
use Rattle.unit.proofs.InPlace.{level-kept, initialised-kept, set-up-kept, binding-kept, rest-kept, armed_kept, matched-kept, late-kept}
use Rattle.pack.specs.Packing.{latches_in, state_in}
use Rattle.pack.proofs.Tabled.{tabled-at}
use Rattle.pack.proofs.Kept.{other, same, Kept, Apart, kept_next, flags-set, time-set, late-set, set-set}
use Rattle.cells.proofs.Reading.{channel-in}
use Rattle.stores.proofs.Writing.{with_latches, word-changed, reg-changed, timers-changed, pins-changed, slots-changed, latches-changed}

module _ (s : List ℕ) (z : length s ≡ 211) where
  long : (k v : ℕ) → length (set s k v) ≡ 211
  long k v = length-set s k v ∙ z

  -- the word k is stored
  one : (k v : ℕ) → Kept (λ i. i ≢ k) s (set s k v)
  one k v i n = other s k v i n

  pub word-put : (c i v : ℕ) → c < 16 → i < 8 → state_in (set s (8 * c + i) v) ≡ with_word (state_in s) c i v
  unfolding with_word
  word-put c i v h l =
      word-changed s (set s (8 * c + i) v) (8 * c + i) (omega arith) (one (8 * c + i) v)
      ∙ ap (λ x. with_words (state_in s) (set (state_in s).words (8 * c + i) x)) (same s (8 * c + i) v z (omega arith))

  pub reg-put : (i v : ℕ) → i < 12 → state_in (set s (128 + i) v) ≡ with_reg (state_in s) i v
  reg-put i v h = reg-changed s (set s (128 + i) v) i h (one (128 + i) v) ∙ ap (with_reg (state_in s) i) (same s (128 + i) v z (omega arith))

  pub pins-put : (v : ℕ) → state_in (set s 142 v) ≡ with_pins (state_in s) v
  pins-put v = pins-changed s (set s 142 v) (one 142 v) ∙ ap (with_pins (state_in s)) (same s 142 v z (omega arith))

  stored : (c : ℕ) (x : Channel) → c < 16 → with_channel (state_in s) c x ≡ with_latches (state_in s) c (latched (latches_in s c) x)
  unfolding with_channel with_latches state_in
  stored c x h = ap (λ (k : Latches). with_latches (state_in s) c (latched k x)) (tabled-at (latches_in s) none 16 c h)

  -- t has other numbers kept of c: those of the channel x
  kept_put : (t : List ℕ) (c : ℕ) (x : Channel) → c < 16 → Kept (Apart c) s t → latches_in t c ≡ latched (latches_in s c) x → state_in t ≡ with_channel (state_in s) c x
  kept_put t c x h b e = latches-changed s t c h b ∙ ap (with_latches (state_in s) c) e ∙ sym (stored c x h)

  module _ (c : ℕ) (h : c < 16) where
    abbrev now : Latches
    now = latches_in s c

    pub late-put : (n : ℕ) → state_in (set s (179 + c) n) ≡ with_late (state_in s) c n
    unfolding with_late
    late-put n =
        rw (channel-in s c h)
        (kept_put (set s (179 + c) n) c _ h (kept_next (Apart c) s s (179 + c) n (omega arith) (λ i m. refl))
        (late-set s z c n h ∙ sym (late-kept now n)))

    flags-kept : (f : ℕ) → Kept (Apart c) s (set s (143 + c) f)
    flags-kept f = kept_next (Apart c) s s (143 + c) f (omega arith) (λ i m. refl)

    -- new flags, that make the numbers those of the channel x
    flags-put : (f : ℕ) (x : Channel) → latched now x ≡ record { flags = f; time = now.time; late = now.late; set = now.set } → state_in (set s (143 + c) f) ≡ with_channel (state_in s) c x
    flags-put f x e = kept_put (set s (143 + c) f) c x h (flags-kept f) (flags-set s z c f h ∙ sym e)

    pub level-put : (on : Bool) → state_in (set s (143 + c) (with_field 1 now.flags 1 (bit_value on))) ≡ with_level (state_in s) c on
    unfolding with_level
    level-put on = rw (channel-in s c h) (flags-put _ _ (level-kept now on))

    pub uninitialised-put : state_in (set s (143 + c) (with_field 1 now.flags 0 0)) ≡ with_initialised (state_in s) c false
    unfolding with_initialised
    uninitialised-put = rw (channel-in s c h) (flags-put _ _ (initialised-kept now false))

    pub set-up-put : (k : Timer) → state_in (set s (143 + c) (with_field 1 (with_field 1 now.flags 0 1) 5 (timer_number k))) ≡ with_set_up (state_in s) c k
    unfolding with_set_up
    set-up-put k = rw (channel-in s c h) (flags-put _ _ (set-up-kept now k))

    pub bind-put : state_in (set s (143 + c) (with_field 2 (with_field 1 now.flags 6 (bit_value (bit_of now.flags 5))) 3 1)) ≡ with_binding (state_in s) c
    unfolding with_binding
    bind-put = rw (channel-in s c h) (flags-put _ _ (binding-kept now))

    pub rest_put : state_in (set s (143 + c) (with_field 2 now.flags 3 0)) ≡ with_phase (state_in s) c (channel (state_in s) c).way Resting
    unfolding with_phase
    rest_put = rw (channel-in s c h) (flags-put _ _ (rest-kept now))

    -- the flags with a direction and the number of a phase
    abbrev stands : Way → ℕ → ℕ
    stands w n = with_field 2 (with_field 1 now.flags 2 (way_number w)) 3 n

    pub arm-put : (w : Way) (t : ℕ) → state_in (set (set s (143 + c) (stands w 2)) (159 + c) t) ≡ with_phase (state_in s) c w (Armed t)
    unfolding with_phase
    arm-put w t =
        let a = set s (143 + c) (stands w 2) in
        let l = long (143 + c) (stands w 2) in
        let flags = flags-set s z c (stands w 2) h in
        let kept = time-set a l c t h ∙ ap (λ (k : Latches). record { flags = k.flags; time = t; late = k.late; set = k.set }) flags in
        rw (channel-in s c h)
        (kept_put (set a (159 + c) t) c _ h (kept_next (Apart c) s a (159 + c) t (omega arith) (flags-kept (stands w 2)))
        (kept ∙ sym (armed_kept now w t)))

    pub happen-put : (w : Way) (n t : ℕ) → state_in (set (set (set s (143 + c) (stands w 3)) (159 + c) n) (195 + c) t) ≡ with_phase (state_in s) c w (Matched n t)
    unfolding with_phase
    happen-put w n t =
        let a = set s (143 + c) (stands w 3) in
        let b = set a (159 + c) n in
        let l = long (143 + c) (stands w 3) in
        let m = length-set a (159 + c) n ∙ l in
        let kept =
        set-set b m c t h
        ∙ ap (λ (k : Latches). record { flags = k.flags; time = k.time; late = k.late; set = t }) (time-set a l c n h)
        ∙ ap (λ (k : Latches). record { flags = k.flags; time = n; late = k.late; set = t }) (flags-set s z c (stands w 3) h) in
        rw (channel-in s c h)
        (kept_put (set b (195 + c) t) c _ h
        (kept_next (Apart c) s b (195 + c) t (omega arith) (kept_next (Apart c) s a (159 + c) n (omega arith) (flags-kept (stands w 3))))
        (kept ∙ sym (matched-kept now w n t)))

  pub timers-put : (t : Timers) → state_in (set (set s 140 t.tcr1) 141 t.tcr2) ≡ with_timers (state_in s) t
  timers-put t =
      let a : List ℕ = set s 140 t.tcr1 in
      let l : length a ≡ 211 = long 140 t.tcr1 in
      timers-changed s (set a 141 t.tcr2) (λ j n. other a 141 t.tcr2 j n.1 ∙ other s 140 t.tcr1 j n.0)
      ∙ ap (with_timers (state_in s)) (rw (same a 141 t.tcr2 l (omega arith), other a 141 t.tcr2 140 (omega arith), same s 140 t.tcr1 z (omega arith)))

  pub slots-put : (t : Slots) → state_in (set (set (set (set s 175 t.slot) 176 t.high) 177 t.middle) 178 t.low) ≡ with_slots (state_in s) t
  slots-put t =
      let a : List ℕ = set s 175 t.slot in
      let b : List ℕ = set a 176 t.high in
      let d : List ℕ = set b 177 t.middle in
      let l : length a ≡ 211 = long 175 t.slot in
      let m : length b ≡ 211 = length-set a 176 t.high ∙ l in
      let n : length d ≡ 211 = length-set b 177 t.middle ∙ m in
      slots-changed s (set d 178 t.low)
      (λ j o. other d 178 t.low j o.3 ∙ other b 177 t.middle j o.2 ∙ other a 176 t.high j o.1 ∙ other s 175 t.slot j o.0)
      ∙ ap (with_slots (state_in s)) (rw (
        same d 178 t.low n (omega arith),
        other d 178 t.low 177 (omega arith),
        other d 178 t.low 176 (omega arith),
        other d 178 t.low 175 (omega arith),
        same b 177 t.middle m (omega arith),
        other b 177 t.middle 176 (omega arith),
        other b 177 t.middle 175 (omega arith),
        same a 176 t.high l (omega arith),
        other a 176 t.high 175 (omega arith),
        same s 175 t.slot z (omega arith),
      ))

  pub pin-put : (c : ℕ) (on : Bool) → state_in (set s 142 (with_field 1 (get_or s 142 0) c (bit_value on))) ≡ with_pin (state_in s) c on
  unfolding with_pin state_in
  pin-put c on = pins-put (with_field 1 (get_or s 142 0) c (bit_value on))
