-- A load, setting by setting: `loads`.
use Rattle.std.proofs.Common.{Option, Some, None, Result, Ok, Err}
use Prim.Native.Nat.{ℕ, zero, suc, ◌+◌, ◌-◌, ◌*◌, ◌/◌, ◌%◌, ◌≤◌, ◌<◌}
use native.Mathlib.Omega.{arith}
use native.Mathlib.Nat.{eq-or-lt_of_le}
use mathlib.Core.Bool.{Bool, true, false}
use mathlib.Core.List.{List}
use mathlib.Core.Path.{◌≡◌, refl, ap, sym, subst, ◌∙◌}
use mathlib.Core.Logic.{◌≢◌, ◌⊎◌, inl, inr, ⊎_elim}
use lib.Dec.{eqb}
use borrow.Author.Tests.{ne_eqb}
use Rattle.words.specs.Choice.{ask}
use Rattle.words.specs.Field.{field}
use Rattle.words.proofs.ChoiceLaws.{not-both, fails, ask-cases}
use Rattle.unit.specs.declared.State.{State}
use Rattle.unit.specs.declared.Place.TheVariants.{AtWord}
use Rattle.unit.specs.declared.Answered.{Answered}
use Rattle.unit.specs.TheUnit.{Whole, reg, channel, is_bound}
use Rattle.unit.specs.Gate.{place}
use Rattle.unit.specs.Calls.{word_at, is_taken, write_of, run}
use Rattle.unit.specs.Calls as calls
use Rattle.unit.specs.Takes.{Free}
use Rattle.unit.proofs.Reset.{Sized}
use Rattle.blocks.specs.Blocks.{word_in, version}
use Rattle.blocks.specs.Finding.{found}
use Rattle.keeping.specs.declared.Refusal.{Refusal}
use Rattle.keeping.specs.declared.Refusal.TheVariants.{NotFree, NoVersion, UnknownLayout}
use Rattle.keeping.specs.declared.Which.{Which}
use Rattle.keeping.specs.declared.Loaded.{Loaded}
use Rattle.keeping.specs.Layout.{settings, setting_address, setting, known_layout, setting_writes, load_calls}
use Rattle.keeping.specs.Keeping.{refusal_number, sought, chosen_in, chosen, all_free, load_from, load_of}
use Rattle.keeping.proofs.LayoutLaws.{run-append}
use Rattle.keeping.proofs.KeepingLaws.{all-free, free_all}
use Rattle.board.specs.Loads.{SettingAt, Leaves, AllFree, Loads}
use Rattle.board.proofs.AddressLaws.{low-exists, setting_of, placed, addresses}
use Rattle.board.proofs.WriteLaws.{Still, free-still, put, write-taken}
use Rattle.board.proofs.ToLoadLaws.{to-load-found, none-in-other, none-sought}
use Rattle.board.proofs.PutLaws.{Keeps, keeps-refl, keeps-trans, keeps-still, put_keeps, put-sized, put_same, put_other, put-clears, put-stays-cleared}

-- two settings have different places
apart : (m n : ℕ) → m < n → n < settings → place (setting_address n) ≢ place (setting_address m)
apart m n h l e =
    let q : n ≡ m = sym (placed n l).number ∙ ap setting_of e ∙ (placed m (omega arith)).number in
    omega arith

module _ (b : List ℕ) (k : ℕ) where
  -- the state with the first n settings of block k
  unfoldable puts : ℕ → State → State
  puts zero s = s
  puts (suc n) s = put (place (setting_address n)) (word_in b k (3 + n)) (puts n s)

  puts-keep : (n : ℕ) (s : State) → n ≤ settings → Keeps s (puts n s)
  unfolding puts
  puts-keep zero s h = keeps-refl s
  puts-keep (suc n) s h = keeps-trans s (puts n s) _ (puts-keep n s (omega arith)) (put_keeps (puts n s) _ _ (placed n h).settled)

  -- the next write is taken
  next-taken : (n : ℕ) (s : State) → n < settings → Still s
      → write_of (puts n s) (setting_address n) (word_in b k (3 + n)) ≡ record { answer = Ok tt; state = puts (suc n) s }
  unfolding puts
  next-taken n s h f =
      write-taken (puts n s) (setting_address n) (word_in b k (3 + n))
      (keeps-still s (puts n s) (puts-keep n s (omega arith)) f) (placed n h).settled

  writes-put : (n : ℕ) (s : State) → n ≤ settings → Still s → run s (setting_writes b k n) ≡ puts n s
  unfolding setting_writes puts run calls.after
  writes-put zero s h f = refl
  writes-put (suc n) s h f =
      run-append s (setting_writes b k n) _
      ∙ ap (λ t. (write_of t (setting_address n) (word_in b k (3 + n))).state) (writes-put n s (omega arith) f)
      ∙ ap (λ (x : Answered). x.state) (next-taken n s h f)

  puts-sized : (n : ℕ) (s : State) → n ≤ settings → Sized s → Sized (puts n s)
  unfolding puts
  puts-sized zero s h z = z
  puts-sized (suc n) s h z = put-sized (puts n s) _ _ (placed n h).settled (puts-sized n s (omega arith) z)

  -- the setting just written reads as the block's word, and those before it stay
  last-brings : (n m : ℕ) (s : State) → m ≡ n → n < settings → Sized s
      → word_at (puts (suc n) s) (place (setting_address m)) ≡ word_in b k (3 + m)
  unfolding puts
  last-brings n m s e h z =
      subst (λ j. word_at (puts (suc n) s) (place (setting_address j)) ≡ word_in b k (3 + j)) (sym e)
      (put_same (puts n s) _ _ (placed n h).settled (puts-sized n s (omega arith) z))

  earlier-stays : (n m : ℕ) (s : State) → m < n → n < settings
      → word_at (puts (suc n) s) (place (setting_address m)) ≡ word_at (puts n s) (place (setting_address m))
  unfolding puts
  earlier-stays n m s l h =
      put_other (puts n s) (place (setting_address n)) (place (setting_address m)) _
      (placed n h).settled (placed m (omega arith)).settled (apart m n l h)

  puts-bring : (n m : ℕ) (s : State) → m < n → n ≤ settings → Sized s
      → word_at (puts n s) (place (setting_address m)) ≡ word_in b k (3 + m)
  puts-bring zero m s l h z = absurd (omega arith)
  puts-bring (suc n) m s l h z =
      ⊎_elim (λ e. last-brings n m s (omega arith) h z)
      (λ e. earlier-stays n m s (omega arith) h ∙ puts-bring n m s (omega arith) (omega arith) z) (eq-or-lt_of_le l)

  -- a channel whose word 0 is among the settings so far is uninitialised
  last-clears : (n c : ℕ) (s : State) → n < settings → c < 16 → place (setting_address n) ≡ AtWord c 0 → Sized s
      → (channel (puts (suc n) s) c).initialised ≡ false
  unfolding puts
  last-clears n c s h i e z =
      subst (λ p. (channel (put p (word_in b k (3 + n)) (puts n s)) c).initialised ≡ false) (sym e)
      (put-clears (puts n s) c _ i (puts-sized n s (omega arith) z))

  stays-clear : (n c : ℕ) (s : State) → n < settings → Sized s → (channel (puts n s) c).initialised ≡ false
      → (channel (puts (suc n) s) c).initialised ≡ false
  unfolding puts
  stays-clear n c s h z = put-stays-cleared (puts n s) _ _ c (placed n h).settled (puts-sized n s (omega arith) z)

  puts-clear : (n m c : ℕ) (s : State) → m < n → n ≤ settings → c < 16 → place (setting_address m) ≡ AtWord c 0 → Sized s
      → (channel (puts n s) c).initialised ≡ false
  puts-clear zero m c s l h i e z = absurd (omega arith)
  puts-clear (suc n) m c s l h i e z =
      ⊎_elim (λ q. let r : m ≡ n = omega arith in last-clears n c s h i (subst (λ j. place (setting_address j) ≡ AtWord c 0) r e) z)
      (λ q. stays-clear n c s h z (puts-clear n m c s (omega arith) (omega arith) i e z)) (eq-or-lt_of_le l)

  -- ---- the whole load

  load-puts : (s : State) → AllFree s → run s (load_calls b k) ≡ puts settings s
  unfolding load_calls
  load-puts s f = writes-put settings s (omega arith) (free-still s f)

  taken : (s : State) (n : ℕ) → AllFree s → n < settings
      → is_taken (write_of (run s (setting_writes b k n)) (setting_address n) (word_in b k (3 + n))).answer ≡ true
  unfolding is_taken
  taken s n f h = rw (writes-put n s (omega arith) (free-still s f), next-taken n s h (free-still s f))

  brought : (s : State) (n : ℕ) → Whole s → AllFree s → n < settings → setting (run s (load_calls b k)) n ≡ word_in b k (3 + n)
  unfolding setting
  brought s n w f h = rw (load-puts s f) (puts-bring settings n s h (omega arith) w)

  uninitialised : (s : State) (c : ℕ) → Whole s → c < 16 → (channel (puts settings s) c).initialised ≡ false
  uninitialised s c w h =
      let x : SettingAt (AtWord c 0) = addresses.words c 0 h (omega arith) (low-exists c 0 (omega arith)) in
      puts-clear settings x.number c s x.within (omega arith) h x.stands w

  left : (s : State) → Whole s → AllFree s → Leaves s (run s (load_calls b k))
  left s w f =
      let x : Keeps s (puts settings s) = puts-keep settings s (omega arith) in
      rw (load-puts s f)
      record {
        registers = x.registers;
        pins = x.pins;
        clock = x.clock;
        slots = x.slots;
        missing = x.missing;
        uninitialised = λ c h. uninitialised s c w h;
        kinds = x.kinds;
        timers = x.timers;
        levels = x.levels;
        ways = x.ways;
        phases = x.phases;
        late = x.late;
      }

-- ---- its answer

missing-no : (s : State) (w : Which) (b : List ℕ) → found b (sought w) ≡ None → (load_of s w b).answer ≡ Err NoVersion
unfolding load_of load_from chosen chosen_in
missing-no s w b e = rw e refl

layout-no : (s : State) (w : Which) (b : List ℕ) (k : ℕ) → found b (sought w) ≡ Some k → word_in b k 0 ≢ 1 → (load_of s w b).answer ≡ Err UnknownLayout
unfolding load_of load_from chosen chosen_in ask
layout-no s w b k e other = rw (e, ne_eqb (word_in b k 0) 1 other) refl

bound-no : (s : State) (w : Which) (b : List ℕ) (k : ℕ) → found b (sought w) ≡ Some k → word_in b k 0 ≡ 1 → all_free s ≡ false
    → (load_of s w b).answer ≡ Err NotFree
unfolding load_of load_from chosen chosen_in ask
bound-no s w b k e one f = rw (e, one, f) refl

pub load-taken : (s : State) (w : Which) (b : List ℕ) (k : ℕ) → found b (sought w) ≡ Some k → word_in b k 0 ≡ 1 → AllFree s
    → load_of s w b ≡ record { answer = Ok (version b k); state = run s (load_calls b k) }
unfolding load_of load_from chosen chosen_in ask AllFree
load-taken s w b k e one f = rw (e, one, free_all s f) refl

-- some channel is not free
not-all-free : (s : State) (c : ℕ) → c < 16 → (is_bound s c ≡ true) ⊎ (field 2 (reg s (7 + (1 - c / 8))) (2 * (c % 8)) ≢ 0) → all_free s ≡ false
not-all-free s c h why =
    fails (all_free s)
    (λ e.
    let free : Free c s = all-free s e c h in
    ⊎_elim (λ bound. not-both bound free.unbound) (λ pending. pending free.none) why)

-- ---- a refused load

-- an Ok is no Err
unlike : {v : ℕ} {r : Refusal} → ◌≡◌ {A = Result ℕ Refusal} (Ok v) (Err r) → ⊥
unlike e = let z : ◌≡◌ {A = ℕ} 0 1 = cc in omega arith

same_number : {q r : Refusal} → ◌≡◌ {A = Result ℕ Refusal} (Err q) (Err r) → refusal_number r ≡ refusal_number q
same_number {q} {r} e = let same : r ≡ q = cc in ap refusal_number same

-- the number is the store's own or 2, and the state is kept
asked-refuses : (s : State) (q : Bool) (t : State) (v : ℕ) (r : Refusal)
    → (ask {A = Loaded} q record { answer = Err NotFree; state = s } record { answer = Ok v; state = t }).answer ≡ Err r
    → (refusal_number r ≡ 2) × ((ask {A = Loaded} q record { answer = Err NotFree; state = s } record { answer = Ok v; state = t }).state ≡ s)
unfolding ask
asked-refuses s true t v r e = absurd (unlike e)
asked-refuses s false t v r e = (same_number e, refl)

-- the store's own nos
own-number : (b : List ℕ) (f : Option ℕ) (r : Refusal) → chosen_in b f ≡ Err r → (refusal_number r ≡ 12) ⊎ (refusal_number r ≡ 13)
unfolding chosen_in
own-number b None r = λ e. inl (same_number e)
own-number b (Some k) r =
    ask-cases (λ (x : Result ℕ Refusal). x ≡ Err r → (refusal_number r ≡ 12) ⊎ (refusal_number r ≡ 13))
    (eqb (word_in b k 0) known_layout) (Err UnknownLayout) (Ok k)
    (λ e. inr (same_number e))
    (λ q e. absurd (unlike e))

refused-by : (s : State) (b : List ℕ) (f : Option ℕ) (x : Result ℕ Refusal) (r : Refusal) → chosen_in b f ≡ x → (load_from s b x).answer ≡ Err r
    → ((refusal_number r ≡ 12) ⊎ ((refusal_number r ≡ 13) ⊎ (refusal_number r ≡ 2))) × ((load_from s b x).state ≡ s)
unfolding load_from
refused-by s b f (Err q) r e h =
    let same = same_number h in
    (⊎_elim (λ n. inl (same ∙ n)) (λ n. inr (inl (same ∙ n))) (own-number b f q e), refl)
refused-by s b f (Ok k) r e h =
    let refused = asked-refuses s (all_free s) _ _ r h in
    (inr (inr refused.0), refused.1)

load-refused : (s : State) (w : Which) (b : List ℕ) (r : Refusal) → (load_of s w b).answer ≡ Err r
    → ((refusal_number r ≡ 12) ⊎ ((refusal_number r ≡ 13) ⊎ (refusal_number r ≡ 2))) × ((load_of s w b).state ≡ s)
unfolding load_of chosen
load-refused s w b r e = refused-by s b (found b (sought w)) (chosen b w) r refl e

pub loads : Loads
loads =
    record {
      each-taken = λ s b k n f h. taken b k s n f h;
      brings = λ s b k n w f h. brought b k s n w f h;
      leaves = λ s b k w f. left b k s w f;
      store_length = λ s w b other. missing-no s w b (none-in-other b w other);
      none-sound = λ s w b none. missing-no s w b (none-sought b w none);
      layout = λ s w b k x other. layout-no s w b k (to-load-found b w k x) other;
      question-2 = λ s w b k c x one h why. bound-no s w b k (to-load-found b w k x) one (not-all-free s c h why);
      taken = λ s w b k x one f. load-taken s w b k (to-load-found b w k x) one f;
      numbers = λ s w b r e. (load-refused s w b r e).0;
      refused = λ s w b r e. (load-refused s w b r e).1;
    }
