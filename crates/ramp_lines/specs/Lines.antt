-- What a line asks. Bytes are numbers; 32 is the space.
use Rattle.std.specs.Prelude.{ℕ, ◌+◌, ◌-◌, List, length, take, drop, get_or, leb, ltb, eqb, Option, Some, None, option_map, Float}
use Rattle.words.specs.Choice.{pick, ask}
use Rattle.text.specs.Finding.{first_from}
use Rattle.numeral.specs.Decimal.{decimal_of, short_of}
use Rattle.ramp.specs.declared.Ramp.{Ramp}
use Rattle.ramp.specs.declared.Ramp.TheVariants.{Periods, Speeds}
use Rattle.ramp_lines.specs.declared.line.Request.{Request}

-- the place of the first space from `at` on, or the line's end
abbrev pub next_space : List ℕ → ℕ → ℕ
next_space line at = first_from line at 32

-- that place, where it has a space
abbrev pub space_from : List ℕ → ℕ → Option ℕ
space_from line at = pick (ltb (next_space line at) (length line)) (Some (next_space line at)) None

-- the bytes from place a up to place e
abbrev pub between : List ℕ → ℕ → ℕ → List ℕ
between line a e = take (e - a) (drop a line)

-- the ramp of two numbers by the letter, `P` (80) or `S` (83)
abbrev pub sheet_by : ℕ → Float → Float → Option Ramp
sheet_by letter x y = pick (eqb letter 80) (Some (Periods x y)) (pick (eqb letter 83) (Some (Speeds x y)) None)

-- by the letter and the numerals: two numbers, the tick length and N
unfoldable pub asked_by : ℕ → Option Float → Option Float → Option Float → Option ℕ → Option Request
asked_by letter (Some x) (Some y) (Some tick) (Some n) = option_map (λ sheet. record { sheet = sheet; tick = tick; rates = n }) (sheet_by letter x y)
asked_by letter (Some x) (Some y) (Some tick) None = None
asked_by letter (Some x) (Some y) None n = None
asked_by letter (Some x) None tick n = None
asked_by letter None second tick n = None

-- a letter and a space; then three decimals with a space after each, whose places are a, b and c; N is the rest
unfoldable pub request_of : List ℕ → Option Request
request_of line =
    let a = next_space line 2 in
    let b = next_space line (a + 1) in
    let c = next_space line (b + 1) in
    ask (leb 2 (length line)) None
    (ask (eqb (get_or line 1 0) 32) None
    (ask (ltb a (length line)) None
    (ask (ltb b (length line)) None
    (ask (ltb c (length line)) None
    (asked_by (get_or line 0 0)
    (decimal_of (between line 2 a))
    (decimal_of (between line (a + 1) b))
    (decimal_of (between line (b + 1) c))
    (short_of (drop (c + 1) line)))))))
