-- The parts of the state that lent words hold stand among the words.
use Prim.Native.Nat.{ℕ, ◌+◌, ◌*◌, ◌<◌}
use mathlib.Core.List.{List}
use mathlib.Core.Path.{◌≡◌, ap}
use lib.ListN.{get_or}
use Rattle.unit.specs.TheUnit.{way_from, timer_from, phase_from, stands_for, none, channel_at, word, reg, channel}
use Rattle.words.specs.Field.{field, bit_of}
use Rattle.unit.specs.declared.Channel.{Channel}
use Rattle.pack.specs.Packing.{word_in, reg_in, latches_in, state_in}
use Rattle.pack.proofs.Tabled.{tabled-at}

pub word-in : (s : List ℕ) (c i : ℕ) → 8 * c + i < 128 → word (state_in s) c i ≡ get_or s (8 * c + i) 0
unfolding word state_in
word-in s c i h = tabled-at (word_in s) 0 128 (8 * c + i) h

pub reg_in_lem : (s : List ℕ) (i : ℕ) → i < 12 → reg (state_in s) i ≡ get_or s (128 + i) 0
unfolding reg state_in
reg_in_lem s i h = tabled-at (reg_in s) 0 12 i h

pub channel-in : (s : List ℕ) (c : ℕ) → c < 16 → channel (state_in s) c ≡ stands_for (latches_in s c)
unfolding channel channel_at state_in
channel-in s c h = ap stands_for (tabled-at (latches_in s) none 16 c h)

-- ---- the record of a channel, field by field

module _ (s : List ℕ) (c : ℕ) (h : c < 16) where
  pub initialised-in : (channel (state_in s) c).initialised ≡ bit_of (get_or s (143 + c) 0) 0
  unfolding stands_for
  initialised-in = ap (λ (x : Channel). x.initialised) (channel-in s c h)

  pub level_in : (channel (state_in s) c).level ≡ bit_of (get_or s (143 + c) 0) 1
  unfolding stands_for
  level_in = ap (λ (x : Channel). x.level) (channel-in s c h)

  pub way_in : (channel (state_in s) c).way ≡ way_from (bit_of (get_or s (143 + c) 0) 2)
  unfolding stands_for
  way_in = ap (λ (x : Channel). x.way) (channel-in s c h)

  pub phase-in : (channel (state_in s) c).phase ≡ phase_from (field 2 (get_or s (143 + c) 0) 3) (get_or s (159 + c) 0) (get_or s (195 + c) 0)
  unfolding stands_for
  phase-in = ap (λ (x : Channel). x.phase) (channel-in s c h)

  pub kind-in : (channel (state_in s) c).kind ≡ timer_from (bit_of (get_or s (143 + c) 0) 5)
  unfolding stands_for
  kind-in = ap (λ (x : Channel). x.kind) (channel-in s c h)

  pub timer-in : (channel (state_in s) c).timer ≡ timer_from (bit_of (get_or s (143 + c) 0) 6)
  unfolding stands_for
  timer-in = ap (λ (x : Channel). x.timer) (channel-in s c h)

  pub late-in : (channel (state_in s) c).late ≡ get_or s (179 + c) 0
  unfolding stands_for
  late-in = ap (λ (x : Channel). x.late) (channel-in s c h)
