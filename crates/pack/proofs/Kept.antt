-- Two lists of words that agree but for some, and the four words of one channel.
use Prim.Native.Nat.{ℕ, ◌+◌, ◌<◌}
use mathlib.Core.List.{List}
use mathlib.Core.Logic.{◌≢◌}
use mathlib.Core.Path.{◌≡◌, ap, ◌∙◌}
use native.Mathlib.Omega.{arith}
use lib.ListN.{length, get_or, set, length-set}
use lib.Seq.{get_or-set_same, get_or-set_other}
use Rattle.unit.specs.declared.Latches.{Latches}
use Rattle.pack.specs.Packing.{latches_laid, latches_in}

-- a word is stored
pub other : (s : List ℕ) (k v i : ℕ) → i ≢ k → get_or (set s k v) i 0 ≡ get_or s i 0
other s k v i n = get_or-set_other s k i v 0 n

pub same : (s : List ℕ) (k v : ℕ) → length s ≡ 211 → k < 211 → get_or (set s k v) k 0 ≡ v
same s k v z h = get_or-set_same s k v 0 (omega (arith, z))

-- t has the words of s at each place that is apart from some
abbrev pub Kept : (ℕ → Type 0) → List ℕ → List ℕ → Type 0
Kept apart s t = (i : ℕ) → apart i → get_or t i 0 ≡ get_or s i 0

-- so it has after a store at one of those
pub kept_next : (apart : ℕ → Type 0) (s t : List ℕ) (k v : ℕ) → ((i : ℕ) → apart i → i ≢ k) → Kept apart s t → Kept apart s (set t k v)
kept_next apart s t k v n a i m = other t k v i (n i m) ∙ a i m

-- ---- the four words of one channel

-- another word than these
abbrev pub Apart : ℕ → ℕ → Type 0
Apart c i = (i ≢ 143 + c) × (i ≢ 159 + c) × (i ≢ 179 + c) × (i ≢ 195 + c)

pub others_same : (s t : List ℕ) (c i : ℕ) → c < 16 → i < 16 → i ≢ c → Kept (Apart c) s t → latches_in t i ≡ latches_in s i
others_same s t c i h l n a = rw (a (143 + i) (omega arith), a (159 + i) (omega arith), a (179 + i) (omega arith), a (195 + i) (omega arith))

-- one of the four is stored
module _ (s : List ℕ) (z : length s ≡ 211) (c v : ℕ) (h : c < 16) where
  pub flags-set : latches_in (set s (143 + c) v) c ≡ record { flags = v; time = get_or s (159 + c) 0; late = get_or s (179 + c) 0; set = get_or s (195 + c) 0 }
  flags-set =
      rw (same s (143 + c) v z (omega arith), other s (143 + c) v (159 + c) (omega arith))
      (rw (other s (143 + c) v (179 + c) (omega arith), other s (143 + c) v (195 + c) (omega arith)))

  pub time-set : latches_in (set s (159 + c) v) c ≡ record { flags = get_or s (143 + c) 0; time = v; late = get_or s (179 + c) 0; set = get_or s (195 + c) 0 }
  time-set =
      rw (same s (159 + c) v z (omega arith), other s (159 + c) v (143 + c) (omega arith))
      (rw (other s (159 + c) v (179 + c) (omega arith), other s (159 + c) v (195 + c) (omega arith)))

  pub late-set : latches_in (set s (179 + c) v) c ≡ record { flags = get_or s (143 + c) 0; time = get_or s (159 + c) 0; late = v; set = get_or s (195 + c) 0 }
  late-set =
      rw (same s (179 + c) v z (omega arith), other s (179 + c) v (143 + c) (omega arith))
      (rw (other s (179 + c) v (159 + c) (omega arith), other s (179 + c) v (195 + c) (omega arith)))

  pub set-set : latches_in (set s (195 + c) v) c ≡ record { flags = get_or s (143 + c) 0; time = get_or s (159 + c) 0; late = get_or s (179 + c) 0; set = v }
  set-set =
      rw (same s (195 + c) v z (omega arith), other s (195 + c) v (143 + c) (omega arith))
      (rw (other s (195 + c) v (159 + c) (omega arith), other s (195 + c) v (179 + c) (omega arith)))

-- all four are
module _ (s : List ℕ) (c : ℕ) (k : Latches) where
  abbrev first : List ℕ
  first = set s (143 + c) k.flags

  abbrev second : List ℕ
  second = set first (159 + c) k.time

  abbrev third : List ℕ
  third = set second (179 + c) k.late

  pub laid_beside : Kept (Apart c) s (latches_laid s c k)
  laid_beside i n =
      other third (195 + c) k.set i n.3 ∙ other second (179 + c) k.late i n.2
      ∙ other first (159 + c) k.time i n.1 ∙ other s (143 + c) k.flags i n.0

  pub laid_same : length s ≡ 211 → c < 16 → latches_in (latches_laid s c k) c ≡ k
  laid_same z h =
      let y : length first ≡ 211 = simp length-set z in
      let x : length second ≡ 211 = simp length-set z in
      let w : length third ≡ 211 = simp length-set z in
      set-set third w c k.set h
      ∙ ap (λ (o : Latches). record { flags = o.flags; time = o.time; late = o.late; set = k.set }) (late-set second x c k.late h)
      ∙ ap (λ (o : Latches). record { flags = o.flags; time = o.time; late = k.late; set = k.set }) (time-set first y c k.time h)
      ∙ ap (λ (o : Latches). record { flags = o.flags; time = k.time; late = k.late; set = k.set }) (flags-set s z c k.flags h)
