-- The addresses of the settings: the place of each, and the setting at each place.
use Prim.Native.Nat.{ℕ, ◌+◌, ◌-◌, ◌*◌, ◌/◌, ◌%◌, ◌≤◌, ◌<◌}
use native.Mathlib.Omega.{arith}
use mathlib.Core.Bool.{Bool, true, false, ◌&&◌, ◌||◌}
use mathlib.Core.Logic.{◌≢◌}
use mathlib.Core.Path.{◌≡◌, refl, sym, subst, ◌∙◌, ap}
use lib.Dec.{leb, ltb}
use borrow.Author.Tests.{le-leb, lt-ltb, le-ltb, leb-true, ltb-true, ltb-false}
use Rattle.words.specs.Choice.{pick}
use Rattle.words.proofs.ChoiceLaws.{pick-cases, fails, tests, and_left, and_right}
use Rattle.unit.specs.declared.Place.{Place}
use Rattle.unit.specs.declared.Place.TheVariants.{AtRegister, AtWord, AtLate, Nowhere}
use Rattle.unit.specs.TheUnit.{exists}
use Rattle.unit.specs.Gate.{place}
use Rattle.unit.specs.Readings.{word_address}
use Rattle.unit.proofs.Tests.{or_left, or_right}
use Rattle.unit.proofs.Readings.{register-place, word-place}
use Rattle.keeping.specs.Layout.{settings, setting_address}
use Rattle.board.specs.Loads.{is_setting_register, SettingAt, Addresses}

-- ---- the setting registers, and the words that exist

pub register-cases {ℓ} : (P : Type ℓ) (i : ℕ) → is_setting_register i ≡ true → (1 ≤ i → i ≤ 4 → P) → (9 ≤ i → i ≤ 10 → P) → P
unfolding is_setting_register
register-cases P i e low high = by (leb 1 i && leb i 4) refl
  where
    by : (b : Bool) → (leb 1 i && leb i 4) ≡ b → P
    by true t = low (leb-true 1 i (and_left (leb 1 i) (leb i 4) t)) (leb-true i 4 (and_right (leb 1 i) (leb i 4) t))
    by false t =
        let h : (leb 9 i && leb i 10) ≡ true = sym (ap (λ x. x || (leb 9 i && leb i 10)) t) ∙ e in
        high (leb-true 9 i (and_left (leb 9 i) (leb i 10) h)) (leb-true i 10 (and_right (leb 9 i) (leb i 10) h))

function-register : (i : ℕ) → 1 ≤ i → i ≤ 4 → is_setting_register i ≡ true
unfolding is_setting_register
function-register i h l = or_left (leb 1 i && leb i 4) _ (rw (le-leb 1 i h, le-leb i 4 l))

priority-register : (i : ℕ) → 9 ≤ i → i ≤ 10 → is_setting_register i ≡ true
unfolding is_setting_register
priority-register i h l = or_right (leb 1 i && leb i 4) _ (rw (le-leb 9 i h, le-leb i 10 l))

pub low-exists : (c i : ℕ) → i < 6 → exists c i ≡ true
unfolding exists
low-exists c i h = or_right (leb 14 c) _ (lt-ltb i 6 h)

high-exists : (c i : ℕ) → 14 ≤ c → exists c i ≡ true
unfolding exists
high-exists c i h = or_left (leb 14 c) _ (le-leb 14 c h)

below-six : (c i : ℕ) → exists c i ≡ true → c < 14 → i < 6
unfolding exists
below-six c i e h = ltb-true i 6 (rw (fails (leb 14 c) (λ t. omega (arith, tests))) at e)

-- the places that settings may have
unfoldable pub Settled : Place → Type 0
Settled (AtRegister i) = is_setting_register i ≡ true
Settled (AtWord c i) = (c < 16) × (i < 8) × (exists c i ≡ true)
Settled (AtLate k) = ⊥
Settled Nowhere = ⊥

-- ---- the places of addresses

place-word : (a c i : ℕ) → a ≡ 0xf00 + 16 * c + 2 * i → c < 16 → i < 8 → place a ≡ AtWord c i
place-word a c i h m l = let e : a ≡ word_address c i = omega arith in ap place e ∙ word-place c i m l

place-register : (a i : ℕ) → a ≡ 0xe0a + 2 * i → i < 12 → place a ≡ AtRegister i
place-register a i h l = ap place h ∙ register-place i l

-- ---- setting n

-- the four ranges of settings: P of an address, given what it is in each
address-cases {ℓ} : (P : ℕ → Type ℓ) (n : ℕ) → (n < 84 → P (0xf00 + 16 * (n / 6) + 2 * (n % 6)))
    → (84 ≤ n → n < 100 → P (0xfe0 + 2 * (n - 84)))
    → (100 ≤ n → n < 104 → P (0xe0c + 2 * (n - 100))) → (104 ≤ n → P (0xe1c + 2 * (n - 104))) → P (setting_address n)
unfolding setting_address
address-cases P n low high functions priorities =
    pick-cases P (ltb n 84) (λ t. low (ltb-true n 84 t))
    (λ t. pick-cases P (ltb n 100) (λ u. high (ltb-false n 84 t) (ltb-true n 100 u))
    (λ u. pick-cases P (ltb n 104) (λ v. functions (ltb-false n 100 u) (ltb-true n 104 v)) (λ v. priorities (ltb-false n 104 v))))

-- the setting at a place
unfoldable pub setting_of : Place → ℕ
setting_of (AtRegister i) = pick (ltb i 9) (99 + i) (95 + i)
setting_of (AtWord c i) = pick (ltb c 14) (6 * c + i) (84 + 8 * (c - 14) + i)
setting_of (AtLate k) = 0
setting_of Nowhere = 0

-- p is the place of setting n
pub record PlacedAt (n : ℕ) (p : Place) : Type 0 where
  pub settled : Settled p
  pub number : setting_of p ≡ n

placed-low : (n : ℕ) → n < 84 → PlacedAt n (AtWord (n / 6) (n % 6))
unfolding Settled setting_of
placed-low n h =
    record {
      settled = (omega arith, omega arith, low-exists (n / 6) (n % 6) (omega arith));
      number = rw (lt-ltb (n / 6) 14 (omega arith)) (omega arith);
    }

placed-high : (n : ℕ) → 84 ≤ n → n < 100 → PlacedAt n (AtWord (14 + (n - 84) / 8) ((n - 84) % 8))
unfolding Settled setting_of
placed-high n h l =
    let c : ℕ = 14 + (n - 84) / 8 in
    record {
      settled = (omega arith, omega arith, high-exists c ((n - 84) % 8) (omega arith));
      number = rw (le-ltb c 14 (omega arith)) (omega arith);
    }

placed-function : (n : ℕ) → 100 ≤ n → n < 104 → PlacedAt n (AtRegister (n - 99))
unfolding Settled setting_of
placed-function n h l =
    record { settled = function-register (n - 99) (omega arith) (omega arith); number = rw (lt-ltb (n - 99) 9 (omega arith)) (omega arith) }

placed-priority : (n : ℕ) → 104 ≤ n → n < 106 → PlacedAt n (AtRegister (n - 95))
unfolding Settled setting_of
placed-priority n h l =
    record { settled = priority-register (n - 95) (omega arith) (omega arith); number = rw (le-ltb (n - 95) 9 (omega arith)) (omega arith) }

pub placed : (n : ℕ) → n < settings → PlacedAt n (place (setting_address n))
placed n l =
    address-cases (λ a. PlacedAt n (place a)) n
    (λ h. subst (PlacedAt n) (sym (place-word _ (n / 6) (n % 6) refl (omega arith) (omega arith))) (placed-low n h))
    (λ h m. subst (PlacedAt n) (sym (place-word _ (14 + (n - 84) / 8) ((n - 84) % 8) (omega arith) (omega arith) (omega arith))) (placed-high n h m))
    (λ h m. subst (PlacedAt n) (sym (place-register _ (n - 99) (omega arith) (omega arith))) (placed-function n h m))
    (λ h. subst (PlacedAt n) (sym (place-register _ (n - 95) (omega arith) (omega arith))) (placed-priority n h l))

-- ---- the setting at a place

low_word : (c i : ℕ) → c < 14 → i < 6 → SettingAt (AtWord c i)
low_word c i h l =
    let n : ℕ = 6 * c + i in
    let e : setting_address n ≡ 0xf00 + 16 * c + 2 * i =
    address-cases (λ a. a ≡ 0xf00 + 16 * c + 2 * i) n (λ m. omega arith) (λ m k. omega arith) (λ m k. omega arith) (λ m. omega arith) in
    record { number = n; within = omega arith; stands = place-word (setting_address n) c i e (omega arith) (omega arith) }

high_word : (c i : ℕ) → 14 ≤ c → c < 16 → i < 8 → SettingAt (AtWord c i)
high_word c i h m l =
    let n : ℕ = 84 + 8 * (c - 14) + i in
    let e : setting_address n ≡ 0xf00 + 16 * c + 2 * i =
    address-cases (λ a. a ≡ 0xf00 + 16 * c + 2 * i) n (λ p. omega arith) (λ p k. omega arith) (λ p k. omega arith) (λ p. omega arith) in
    record { number = n; within = omega arith; stands = place-word (setting_address n) c i e m l }

word-setting : (c i : ℕ) → c < 16 → i < 8 → exists c i ≡ true → SettingAt (AtWord c i)
word-setting c i h l e = by (ltb c 14) refl
  where
    by : (b : Bool) → ltb c 14 ≡ b → SettingAt (AtWord c i)
    by true t = low_word c i (ltb-true c 14 t) (below-six c i e (ltb-true c 14 t))
    by false t = high_word c i (ltb-false c 14 t) h l

function-setting : (i : ℕ) → 1 ≤ i → i ≤ 4 → SettingAt (AtRegister i)
function-setting i h l =
    let e : setting_address (99 + i) ≡ 0xe0a + 2 * i =
    address-cases (λ a. a ≡ 0xe0a + 2 * i) (99 + i) (λ m. omega arith) (λ m k. omega arith) (λ m k. omega arith) (λ m. omega arith) in
    record { number = 99 + i; within = omega arith; stands = place-register (setting_address (99 + i)) i e (omega arith) }

priority-setting : (i : ℕ) → 9 ≤ i → i ≤ 10 → SettingAt (AtRegister i)
priority-setting i h l =
    let e : setting_address (95 + i) ≡ 0xe0a + 2 * i =
    address-cases (λ a. a ≡ 0xe0a + 2 * i) (95 + i) (λ m. omega arith) (λ m k. omega arith) (λ m k. omega arith) (λ m. omega arith) in
    record { number = 95 + i; within = omega arith; stands = place-register (setting_address (95 + i)) i e (omega arith) }

rising : (m n : ℕ) → m < n → n < 100 → setting_address m < setting_address n
rising m n h l =
    address-cases (λ a. a < setting_address n) m
    (λ p. address-cases (λ a. 0xf00 + 16 * (m / 6) + 2 * (m % 6) < a) n
    (λ q. omega arith) (λ q r. omega arith) (λ q r. omega arith) (λ q. omega arith))
    (λ p o. address-cases (λ a. 0xfe0 + 2 * (m - 84) < a) n
    (λ q. omega arith) (λ q r. omega arith) (λ q r. omega arith) (λ q. omega arith))
    (λ p o. omega arith) (λ p. omega arith)

-- a setting is a register or a parameter word
not_late : (n c : ℕ) → n < settings → place (setting_address n) ≢ AtLate c
unfolding Settled
not_late n c h e = subst Settled e (placed n h).settled

pub addresses : Addresses
addresses =
    record {
      words = word-setting;
      registers = λ i e. register-cases (SettingAt (AtRegister i)) i e (function-setting i) (priority-setting i);
      by_address = rising;
      none-late = not_late;
    }
