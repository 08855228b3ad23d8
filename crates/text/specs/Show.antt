-- How data and forms are shown. Assumes nothing.
use Rattle.std.specs.Prelude.{◌≡◌, ℕ, ◌≤◌, List, [], ◌∷◌, ◌++◌, length, codes, decimal}
use Rattle.std.specs.Fmt.{signed_decimal}
use Rattle.rules.specs.Words.{Datum, number, word, empty, pair}
use Rattle.rules.specs.Reading.{Form}
use Rattle.text.specs.declared.data.Value.{Value}
use Rattle.text.specs.declared.data.Cell.{Cell}
use Rattle.text.specs.Data.{Means}

-- a list in brackets, with single spaces; what ends in no empty list has a point before its end
abbrev mutual
  pub shown : Datum → List ℕ
  shown (number z) = signed_decimal z
  shown (word w h) = w
  shown empty = codes "()"
  shown (pair a b) = 40 ∷ (shown a ++ shown_rest b)

  pub shown_rest : Datum → List ℕ
  shown_rest (number z) = codes " . " ++ (signed_decimal z ++ (41 ∷ []))
  shown_rest (word w h) = codes " . " ++ (w ++ (41 ∷ []))
  shown_rest empty = 41 ∷ []
  shown_rest (pair a b) = 32 ∷ (shown a ++ shown_rest b)

-- a form's offset, a space, its datum and a line feed
abbrev pub form_line : Form → List ℕ
form_line f = decimal f.offset ++ (32 ∷ (shown f.datum ++ (10 ∷ [])))

-- what is added to the bytes is what is shown of a datum for which a value stands over the first n cells
abbrev pub Writes : List Cell → ℕ → Value → (Datum → List ℕ) → List ℕ → List ℕ → Type 0
Writes cs n v show before after = (d : Datum) → Means cs n v d → n ≤ length cs → after ≡ before ++ show d
