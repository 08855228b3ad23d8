-- Numbers: what the library's `parse` reads, in the words of the rules.
use Rattle.std.proofs.Common.{◌≡◌, ℕ, ◌<◌, ◌≤◌, Bool, true, false, cond, ◌&&◌, eqb, ltb, leb, [], ◌∷◌, length, get_or, drop, ℤ, pos, neg_ℤ, Some, None, Ok, Err, IsUtf8, IsAscii, MatchOption, MatchResult, IsSomeAnd, Bor, Option, Result, sym, refl, ap, ◌∙◌, subst, ⊎_elim, arith, w32, rules}
use Rattle.std.specs.Result.{OkIff, result_ok}
use Rattle.std.specs.Str.Parse.{ParsesSigned}
use Rattle.std.proofs.lemmas.Str.Parse.{IsNumeralModel, numerals_by_fold, parse_signed_minus, parse_signed_plain}
use Rattle.std.proofs.lemmas.Bool.{false≢true, and_parts, and_from, and_left, and_right, cond-true, cond-false, eqb-true, cases_eq, eq-eqb, ne_eqb, ltb-true, leb-true, lt-ltb, le-leb}
use Rattle.std.proofs.lemmas.Str.Ascii.{IsAscii-nil, IsAscii-cons}
use Rattle.std.proofs.lemmas.Str.{IsUtf8-nil, IsUtf8-from_ascii}
use Rattle.std.proofs.lemmas.Bool.Decides.{nat_tests}
use Rattle.rules.specs.Words.{Spelling, Home, digit, is_word, word, number}
use Rattle.rules.specs.Reading.{all_digits, value_from, with_sign, numeral, numbered, item_of}
use Rattle.text.specs.declared.data.Value.{Value}
use Rattle.text.specs.Items.{digits_number, written_number, ItemIs}

own : IsNumeralModel (λ ds. all_digits ds ≡ true) (value_from 0)
own = numerals_by_fold _ (search rules) value_from (search rules)

-- an answer that is converted just where a test holds
converted_is : {E : Type 0} (r : Result ℤ E) (P : Type 0) (b : Bool) (z : ℤ) → OkIff r P z → (b ≡ true → P) → (P → b ≡ true) → result_ok r ≡ cond b (Some z) None
converted_is (Ok x) P true z c f g = ap Some c.1
converted_is (Ok x) P false z c f g = absurd (false≢true (g c.0))
converted_is (Err e) P true z c f g = absurd (c (f refl))
converted_is (Err e) P false z c f g = refl

with_sign_cond : (f : ℕ → ℤ) (b : Bool) (n : ℕ) → cond b (Some (f n)) None ≡ with_sign f (cond b (Some n) None)
with_sign_cond f true n = refl
with_sign_cond f false n = refl

abbrev sized : ℕ → Spelling → Bool
sized most ds = ltb 0 (length ds) && all_digits ds && leb (value_from 0 ds) most

-- the test of `digits_number`, and the same in parts
sized_parts : (most bound : ℕ) (ds : Spelling) → (leb (value_from 0 ds) most ≡ true → value_from 0 ds < bound) → sized most ds ≡ true → (all_digits ds ≡ true) × (0 < length ds) × (value_from 0 ds < bound)
sized_parts most bound ds f t =
    let outer = and_parts _ _ t in
    let inner = and_parts _ _ outer.0 in
    (inner.1, ltb-true 0 (length ds) inner.0, f outer.1)

sized_from : (most : ℕ) (ds : Spelling) → all_digits ds ≡ true → 0 < length ds → value_from 0 ds ≤ most → sized most ds ≡ true
sized_from most ds d l v = and_from _ _ (and_from _ _ (lt-ltb 0 (length ds) l) d) (le-leb (value_from 0 ds) most v)

pub minus_reads : {E : Type 0} (bs : Spelling) (r : Result ℤ E) → ParsesSigned w32 10 bs r → get_or bs 0 0 ≡ 45 → result_ok r ≡ written_number bs
minus_reads bs r h e =
    let ds = drop 1 bs in
    let c = parse_signed_minus own w32 bs r h e in
    let n = value_from 0 ds in
    let is : result_ok r ≡ cond (sized 2147483648 ds) (Some (neg_ℤ (pos n))) None =
    converted_is r _ (sized 2147483648 ds) (neg_ℤ (pos n)) c
    (λ t. let p = sized_parts 2147483648 2147483649 ds (λ q. omega (arith, leb-true _ _ q)) t in (p.0, p.1, omega (arith, p.2)))
    (λ p. sized_from 2147483648 ds p.0 p.1 p.2) in
    is ∙ with_sign_cond (λ m. neg_ℤ (pos m)) (sized 2147483648 ds) n ∙ sym (cond-true (eqb (get_or bs 0 0) 45) _ _ (eq-eqb _ _ e))

pub plain_reads : {E : Type 0} (bs : Spelling) (r : Result ℤ E) → ParsesSigned w32 10 bs r → (get_or bs 0 0 ≡ 43 → ⊥) → (get_or bs 0 0 ≡ 45 → ⊥) → result_ok r ≡ written_number bs
plain_reads bs r h e f =
    let c = parse_signed_plain own w32 bs r h e f in
    let n = value_from 0 bs in
    let is : result_ok r ≡ cond (sized 2147483647 bs) (Some (pos n)) None =
    converted_is r _ (sized 2147483647 bs) (pos n) c
    (λ t. sized_parts 2147483647 2147483648 bs (λ q. omega (arith, leb-true _ _ q)) t)
    (λ p. sized_from 2147483647 bs p.0 p.1 (omega (arith, p.2))) in
    is ∙ with_sign_cond pos (sized 2147483647 bs) n ∙ sym (cond-false (eqb (get_or bs 0 0) 45) _ _ (ne_eqb _ _ f))

pub parse_reads : {E : Type 0} (bs : Spelling) (r : Result ℤ E) → ParsesSigned w32 10 bs r → (get_or bs 0 0 ≡ 43 → ⊥) → result_ok r ≡ written_number bs
parse_reads bs r h e = ⊎_elim (minus_reads bs r h) (plain_reads bs r h e) (cases_eq (get_or bs 0 0) 45)

digit_is_ascii : (b : ℕ) → digit b ≡ true → b < 128
digit_is_ascii b h = grind (arith, nat_tests)

digits_are_ascii : (ds : Spelling) → all_digits ds ≡ true → IsAscii ds
digits_are_ascii [] h = IsAscii-nil
digits_are_ascii (b ∷ ds) h = let t = and_parts _ _ h in IsAscii-cons b ds (digit_is_ascii b t.0) (digits_are_ascii ds t.1)

no_digits : (f : ℕ → ℤ) (most : ℕ) (ds : Spelling) → (all_digits ds ≡ true → ⊥) → None ≡ with_sign f (digits_number most ds)
no_digits f most ds h = by (all_digits ds) h
  where
    by : (b : Bool) → (b ≡ true → ⊥) → None ≡ with_sign f (cond (ltb 0 (length ds) && b && leb (value_from 0 ds) most) (Some (value_from 0 ds)) None)
    by true h = absurd (h refl)
    by false h = ap (λ t. with_sign f (cond t (Some (value_from 0 ds)) None)) (sym (and_left _ _ (and_right (ltb 0 (length ds)) false refl)))

-- what is no text writes no number
pub no_text_no_number : (bs : Spelling) → (IsUtf8 bs → ⊥) → None ≡ written_number bs
no_text_no_number [] h = absurd (h IsUtf8-nil)
no_text_no_number (b ∷ bs) h = by (eqb b 45) (eqb-true b 45)
  where
    by : (t : Bool) → (t ≡ true → b ≡ 45) → None ≡ cond t (with_sign (λ n. neg_ℤ (pos n)) (digits_number 2147483648 bs)) (with_sign pos (digits_number 2147483647 (b ∷ bs)))
    by true e = no_digits (λ n. neg_ℤ (pos n)) 2147483648 bs (λ d. h (IsUtf8-from_ascii (b ∷ bs) (IsAscii-cons b bs (omega (arith, e refl)) (digits_are_ascii bs d))))
    by false e = no_digits pos 2147483647 (b ∷ bs) (λ d. h (IsUtf8-from_ascii (b ∷ bs) (digits_are_ascii (b ∷ bs) d)))

-- a word is an item, and so is a number
pub word_item : (h : Home) (bs : Spelling) → is_word bs ≡ true → item_of h bs ≡ Some (word bs h)
word_item h bs e = cond-true (is_word bs) _ _ e

number_item : (h : Home) (bs : Spelling) (o : Option ℤ) → is_word bs ≡ false → o ≡ numeral bs → item_of h bs ≡ numbered o
number_item h bs o e f = cond-false (is_word bs) _ _ e ∙ ap numbered (sym f)

-- what of bytes that may be no text is text, and what is none
pub text_is : {E : Type 0} (Q : E → Type 0) (bs : Spelling) (r : Result (Bor Spelling) E) (s : Bor Spelling) → MatchResult r (λ t. (t.now ≡ bs) × IsUtf8 bs) Q → Some s ≡ result_ok r → s.now ≡ bs
text_is Q bs (Ok t) s m e = let k : s ≡ t = cc in ap (λ (x : Bor Spelling). x.now) k ∙ m.0
text_is Q bs (Err f) s m e = cc

pub text_is_not : {E : Type 0} (Q : E → Type 0) (bs : Spelling) (r : Result (Bor Spelling) E) → MatchResult r (λ t. (t.now ≡ bs) × IsUtf8 bs) (λ f. (IsUtf8 bs → ⊥) × Q f) → None ≡ result_ok r → IsUtf8 bs → ⊥
text_is_not Q bs (Ok t) m e = cc
text_is_not Q bs (Err f) m e = m.0

-- the value of an item that is no word
pub number_value : (h : Home) (bs : Spelling) (o : Option ℤ) (r : Option Value) → is_word bs ≡ false → o ≡ numeral bs → MatchOption o (r ≡ None) (λ z. IsSomeAnd r (λ v. v ≡ Value.Number z)) → ItemIs (item_of h bs) r
number_value h bs None r e f m = subst (λ (k : Option Value). ItemIs (item_of h bs) k) (sym m) (number_item h bs None e f)
number_value h bs (Some z) None e f m = absurd m
number_value h bs (Some z) (Some v) e f m = (number z, number_item h bs (Some z) e f, λ cs. m)
