-- A number is written in one way, and reading that gives it back.
use Rattle.std.specs.Prelude.{◌≡◌, ℕ, zero, suc, ◌^◌, ◌<◌, ◌≤◌, true, false, cond, ◌&&◌, [], ◌∷◌, length, ℤ, pos, negsuc, neg_ℤ, Some, None, decimal, Option, ◌==◌, ◌≢◌, nat_eq, nat_le, nat_lt, slice_index, refl}
use Rattle.std.proofs.Common.{sym, ap, ◌∙◌, ⊎_elim, arith, rules, lit<}
use Rattle.std.specs.Fmt.{signed_decimal}
use Rattle.std.proofs.lemmas.Fmt.{decimal_digit, first_decimal, digits_decimal, digits_value-decimal, decimal-digits_value}
use Rattle.std.proofs.lemmas.List.{nil_from_length}
use Rattle.std.proofs.lemmas.Str.Parse.{IsNumeralModel, numerals_by_fold}
use Rattle.std.proofs.lemmas.Bool.{and_parts, and_from, and_left, cases_Bool, cases_eq, cond-true, cond-false, eqb-true, ne_eqb, ltb-true, leb-true, lt-ltb, le-leb}
use Rattle.rules.specs.Words.{Spelling}
use Rattle.rules.specs.Reading.{all_digits, value_from, with_sign, magnitude, numeral}
use Rattle.rules.specs.Evaluate.{in_range}
use Rattle.artefact.specs.Fields.{bounded, small, when}
use Rattle.artefact.specs.Picks.{some_same, none_some, when_some, cond_some}

pub own : IsNumeralModel (λ ds. all_digits ds ≡ true) (value_from 0)
own = numerals_by_fold _ (search rules) value_from (search rules)

read_digits : (most : ℕ) (ds : Spelling) → 48 < slice_index ds 0 → all_digits ds ≡ true → value_from 0 ds ≤ most → magnitude most ds ≡ Some (value_from 0 ds)
read_digits most [] f d l = absurd (omega arith)
read_digits most (b ∷ bs) f d l = cond-true _ _ _ (and_from _ _ (and_from _ _ (lt-ltb 48 b f) d) (le-leb (value_from 0 (b ∷ bs)) most l))

read_decimal : (most n : ℕ) → 0 < n → n ≤ most → most < 2 ^ 63 → magnitude most (decimal n) ≡ Some n
read_decimal most n p l m =
    let fits : n < 2 ^ 64 = omega arith in
    let v = digits_value-decimal own n fits in
    read_digits most (decimal n) (first_decimal n p fits) (digits_decimal own n fits) (omega (arith, v)) ∙ ap Some v

unsigned : (ds : Spelling) → 48 < slice_index ds 0 → numeral ds ≡ with_sign pos (magnitude 2147483647 ds)
unsigned [] f = absurd (omega arith)
unsigned (b ∷ bs) f =
    cond-false _ _ _ (and_left _ _ (ne_eqb b 48 (omega arith))) ∙ cond-false _ _ _ (ne_eqb b 45 (omega arith))

pub read_unsigned : (n : ℕ) → n < 2147483648 → numeral (decimal n) ≡ Some (pos n)
read_unsigned n l = ⊎_elim none more' (cases_eq n 0)
  where
    none : n ≡ 0 → numeral (decimal n) ≡ Some (pos n)
    none e = ap numeral (ap decimal e ∙ decimal_digit 0 (lit< tt)) ∙ ap (λ k. Some (pos k)) (sym e)

    more' : (n ≢ 0) → numeral (decimal n) ≡ Some (pos n)
    more' p = unsigned (decimal n) (first_decimal n (omega arith) (omega arith)) ∙ ap (with_sign pos) (read_decimal 2147483647 n (omega arith) (omega arith) (lit< tt))

-- every number is read back
pub read_signed : (z : ℤ) → in_range z ≡ true → numeral (signed_decimal z) ≡ Some z
read_signed (pos n) r = read_unsigned n (ltb-true n 2147483648 r)
read_signed (negsuc n) r =
    let l = ltb-true n 2147483648 r in
    ap (with_sign (λ k. neg_ℤ (pos k))) (read_decimal 2147483648 (suc n) (omega arith) (omega arith) (lit< tt))

-- what digits without a leading zero are
pub digits_are : (most : ℕ) (ds : Spelling) (n : ℕ) → most < 2 ^ 63 → magnitude most ds ≡ Some n → (decimal n ≡ ds) × (0 < n) × (n ≤ most)
digits_are most [] n m e = none_some n e
digits_are most (b ∷ bs) n m e =
    let t = cond_some _ (value_from 0 (b ∷ bs)) n e in
    let u = and_parts (nat_lt 48 b && all_digits (b ∷ bs)) (nat_le (value_from 0 (b ∷ bs)) most) t.0 in
    let v = and_parts (nat_lt 48 b) (all_digits (b ∷ bs)) u.0 in
    let first = ltb-true 48 b v.0 in
    let fits = leb-true (value_from 0 (b ∷ bs)) most u.1 in
    let is : decimal (value_from 0 (b ∷ bs)) ≡ b ∷ bs = decimal-digits_value own (b ∷ bs) v.1 (omega arith) (λ z. absurd (omega arith)) (omega arith) in
    let positive : 0 < value_from 0 (b ∷ bs) = above (value_from 0 (b ∷ bs)) b bs first is in
    (ap decimal (sym t.1) ∙ is, omega (arith, t.1), omega (arith, t.1))
  where
    above : (n b : ℕ) (bs : Spelling) → 48 < b → decimal n ≡ b ∷ bs → 0 < n
    above zero b bs f e = absurd (omega (arith, ap (λ ds. slice_index ds 0) (sym (decimal_digit 0 (lit< tt)) ∙ e)))
    above (suc n) b bs f e = omega arith

signed_some : (f : ℕ → ℤ) (o : Option ℕ) (z : ℤ) → with_sign f o ≡ Some z → (n : ℕ) × (o ≡ Some n) × (f n ≡ z)
signed_some f None z e = none_some z e
signed_some f (Some n) z e = (n, refl, some_same (f n) z e)

abbrev Written : Spelling → ℤ → Type 0
Written w z = (signed_decimal z ≡ w) × (in_range z ≡ true)

-- what is read is written so
pub written_as : (w : Spelling) (z : ℤ) → numeral w ≡ Some z → Written w z
written_as [] z e = none_some z e
written_as (b ∷ bs) z e = ⊎_elim nought other (cases_Bool (b == 48 && length bs == 0))
  where
    nought : (b == 48 && length bs == 0) ≡ true → Written (b ∷ bs) z
    nought t =
        let u = and_parts (b == 48) (length bs == 0) t in
        let is : pos 0 ≡ z = some_same (pos 0) z (sym (cond-true _ _ _ t) ∙ e) in
        let digits : decimal 0 ≡ b ∷ bs = decimal_digit 0 (lit< tt) ∙ ap (λ k. k ∷ []) (sym (eqb-true b 48 u.0)) ∙ ap (λ k. b ∷ k) (sym (nil_from_length bs (eqb-true (length bs) 0 u.1))) in
        (ap signed_decimal (sym is) ∙ digits, ap in_range (sym is))

    minus : (k : ℕ) → (decimal k ≡ bs) × (0 < k) × (k ≤ 2147483648) → b ≡ 45 → neg_ℤ (pos k) ≡ z → Written (b ∷ bs) z
    minus zero h s g = absurd (omega (arith, h.1))
    minus (suc k) h s g = (ap signed_decimal (sym g) ∙ ap (λ d. 45 ∷ d) h.0 ∙ ap (λ d. d ∷ bs) (sym s), ap in_range (sym g) ∙ lt-ltb k 2147483648 (omega (arith, h.2)))

    plus : (k : ℕ) → (decimal k ≡ b ∷ bs) × (0 < k) × (k ≤ 2147483647) → pos k ≡ z → Written (b ∷ bs) z
    plus k h g = (ap signed_decimal (sym g) ∙ h.0, ap in_range (sym g) ∙ lt-ltb k 2147483648 (omega (arith, h.2)))

    signed_one : nat_eq b 45 ≡ true → with_sign (λ n. neg_ℤ (pos n)) (magnitude 2147483648 bs) ≡ Some z → Written (b ∷ bs) z
    signed_one s f = let g = signed_some (λ n. neg_ℤ (pos n)) (magnitude 2147483648 bs) z f in minus g.0 (digits_are 2147483648 bs g.0 (lit< tt) g.1) (eqb-true b 45 s) g.2

    unsigned_one : with_sign pos (magnitude 2147483647 (b ∷ bs)) ≡ Some z → Written (b ∷ bs) z
    unsigned_one f = let g = signed_some pos (magnitude 2147483647 (b ∷ bs)) z f in plus g.0 (digits_are 2147483647 (b ∷ bs) g.0 (lit< tt) g.1) g.2

    other : (b == 48 && length bs == 0) ≡ false → Written (b ∷ bs) z
    other t = ⊎_elim (λ s. signed_one s (sym (cond-true _ _ _ s) ∙ rest)) (λ s. unsigned_one (sym (cond-false _ _ _ s) ∙ rest)) (cases_Bool (b == 45))
      where
        rest : cond (b == 45) (with_sign (λ n. neg_ℤ (pos n)) (magnitude 2147483648 bs)) (with_sign pos (magnitude 2147483647 (b ∷ bs))) ≡ Some z
        rest = sym (cond-false _ _ _ t) ∙ e

-- the same of small numbers
pub read_small : (most n : ℕ) → n ≤ most → most < 2147483648 → small most (decimal n) ≡ Some n
read_small most n l m = ap (bounded most) (read_unsigned n (omega arith)) ∙ ap (λ b. when b (Some n)) (le-leb n most l)

pub written_small : (most : ℕ) (w : Spelling) (n : ℕ) → small most w ≡ Some n → (decimal n ≡ w) × (n ≤ most)
written_small most w n e = by (numeral w) refl e
  where
    by : (o : Option ℤ) → numeral w ≡ o → bounded most o ≡ Some n → (decimal n ≡ w) × (n ≤ most)
    by None p f = none_some n f
    by (Some (pos k)) p f =
        let t = when_some (nat_le k most) (Some k) n f in
        let same = some_same k n t.1 in
        (ap decimal (sym same) ∙ (written_as w (pos k) p).0, omega (arith, same, leb-true k most t.0))
    by (Some (negsuc k)) p f = none_some n f
