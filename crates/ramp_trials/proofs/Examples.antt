-- Both tables, computed.
use mathlib.Core.Path.{refl}
use lib.Ieee.{of_bits, to_bits, round, div, neg, lt, le}
use Rattle.words.specs.Choice.{ask}
use Rattle.motor.specs.Stepping.{period}
use Rattle.unit.specs.Gate.{ramp_good}
use Rattle.text.specs.Ascii.{ascii}
use Rattle.numeral.specs.Decimal.{is_digit, with_digit, takes, after_digits, after_point, with_byte, numeral_of, value_of, decimal_of, small_of, short_of}
use Rattle.nearest.specs.Counting.{half_up, count_of}
use Rattle.sheet.specs.Numbers.{is_rate_count, is_positive, is_difference, is_speedup, period_count, speed_count}
use Rattle.ramp.specs.Sheet.{slope, words_of, steps_of, ends_of, periods_of, speeds_of, counts_of}
use Rattle.ramp_trials.specs.Numbers as numbers
use Rattle.ramp_trials.specs.Numbers.{TextsRight, is_pattern, is_short, texts}
use Rattle.ramp_trials.specs.Sheets as sheets
use Rattle.ramp_trials.specs.Sheets.{SheetsRight, is_answer, d, bits, for_each, no_positive, not_positive}

pub texts-right : TextsRight
unfolding is_pattern is_short numbers.is_right numbers.all_right texts ascii is_digit with_digit takes after_digits after_point with_byte numeral_of value_of decimal_of small_of short_of round to_bits
texts-right = refl

pub sheets-right : SheetsRight
unfolding is_answer sheets.is_right sheets.all_right sheets.sheets d bits for_each no_positive not_positive ascii is_digit with_digit takes after_digits after_point with_byte numeral_of value_of decimal_of round of_bits div neg lt le ask period ramp_good half_up count_of is_rate_count is_positive is_difference is_speedup period_count speed_count slope words_of steps_of ends_of periods_of speeds_of counts_of
sheets-right = refl
