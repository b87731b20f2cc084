-- The channels of an HSRR word that ask nothing are passed over.
use Prim.Native.Nat.{ℕ, zero, suc, ◌+◌, ◌-◌, ◌*◌, ◌%◌, ◌<◌, ◌≤◌}
use native.Mathlib.Omega.{arith}
use mathlib.Core.Logic.{◌≢◌}
use mathlib.Core.Path.{◌≡◌, refl}
use Rattle.words.specs.Field.{field}
use Rattle.unit.specs.declared.State.{State}
use Rattle.unit.specs.declared.Refusal.{Refusal}
use Rattle.unit.specs.Gate.{Asked, Yes, No, and_then, ask_channel, ask_channels}
use Rattle.unit.proofs.Scans.{neither, lone-turn}

-- 00 and 01 ask nothing
pub asks_nothing : (x : Asked) (r c : ℕ) → r < 2 → and_then x (ask_channel r c) ≡ x
unfolding and_then ask_channel
asks_nothing (Yes s) r c h = rw ((neither r h).0, (neither r h).1)
asks_nothing (No n) r c h = refl

-- where one channel alone is asked, what it is told is all
pub asks-lone : (a v k : ℕ) (s : State) → a % 8 ≡ 0 → k < 8 → ((i : ℕ) → i < 8 → i ≢ k → field 2 v (2 * i) ≡ 0) → ask_channels 8 a v s ≡ ask_channel (field 2 v (2 * (k % 8))) (a + k) s
unfolding ask_channels and_then
asks-lone a v k s e l h =
    let p : (a + k) % 8 ≡ k % 8 = omega (arith, e) in
    rw (← p) (lone-turn (λ n. ask_channels n a v s) (λ i x. and_then x (ask_channel (field 2 v (2 * ((a + i) % 8))) (a + i))) (λ n. refl) 8 k l others)
  where
    others : (i : ℕ) (x : Asked) → i < 8 → i ≢ k → and_then x (ask_channel (field 2 v (2 * ((a + i) % 8))) (a + i)) ≡ x
    others i x m n =
        let p : (a + i) % 8 ≡ i = omega (arith, e) in
        asks_nothing x (field 2 v (2 * ((a + i) % 8))) (a + i) (rw (p, h i m n) (omega arith))

-- the next channel c is asked of the state that the ones below it left
pub asked-next : (a v c r : ℕ) (s w : State) → a ≤ c → r ≡ field 2 v (2 * (c % 8)) → ask_channels (c - a) a v s ≡ Yes w → ask_channels (suc c - a) a v s ≡ ask_channel r c w
unfolding ask_channels and_then
asked-next a v c r s w h e y =
    let one : suc c - a ≡ suc (c - a) = omega arith in
    let all : a + (c - a) ≡ c = omega arith in
    rw (one, all, y, e) refl

-- a no stays, however many are asked after it
pub asked-no : (a v : ℕ) (s : State) (r : Refusal) (n m : ℕ) → ask_channels n a v s ≡ No r → ask_channels (m + n) a v s ≡ No r
unfolding ask_channels and_then
asked-no a v s r n zero y = let e : zero + n ≡ n = omega arith in rw e y
asked-no a v s r n (suc m) y = let e : suc m + n ≡ suc (m + n) = omega arith in rw (e, asked-no a v s r n m y) refl
