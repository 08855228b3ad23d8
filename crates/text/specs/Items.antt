-- What an item is, as the code reads it. Assumes nothing.
use Rattle.std.specs.Prelude.{◌≡◌, ℕ, cond, ◌&&◌, List, length, drop, ℤ, pos, neg_ℤ, Some, None, Option, ◌==◌, nat_le, nat_lt, slice_index}
use Rattle.rules.specs.Words.{Spelling, Datum}
use Rattle.rules.specs.Reading.{all_digits, value_from, with_sign}
use Rattle.text.specs.declared.data.Value.{Value}
use Rattle.text.specs.declared.data.Cell.{Cell}
use Rattle.text.specs.Data.{Stands}

-- the number that digits write, if it is of at most the given size
abbrev pub digits_number : ℕ → Spelling → Option ℕ
digits_number most ds = cond (nat_lt 0 (length ds) && all_digits ds && nat_le (value_from 0 ds) most) (Some (value_from 0 ds)) None

-- digits with a `-` in front, or with none
abbrev pub written_number : Spelling → Option ℤ
written_number bs =
    cond (slice_index bs 0 == 45) (with_sign (λ n. neg_ℤ (pos n)) (digits_number 2147483648 (drop 1 bs))) (with_sign pos (digits_number 2147483647 bs))

-- an item of a text, over any cells
abbrev pub ItemIs : Option Datum → Option Value → Type 0
ItemIs o None = o ≡ None
ItemIs o (Some v) = (d : Datum) × (o ≡ Some d) × ((cs : List Cell) → Stands cs v d)
