-- Words: their bytes, and the test whether bytes are a word.
use Rattle.std.proofs.Common.{◌≡◌, ℕ, ◌<◌, ◌≤◌, min, Bool, true, ◌&&◌, List, [], ◌∷◌, ◌++◌, length, take, IsUtf8, IsAscii, Bor, refl, ap, ◌∙◌, arith, rules}
use Rattle.std.specs.Prelude.{Ok, Err, Result, MatchResult}
use Rattle.std.specs.Result.{result_unwrap_or}
use Rattle.std.proofs.lemmas.Str.Ascii.{IsAscii-nil, IsAscii-cons}
use Rattle.std.proofs.lemmas.Bool.{and_parts, and_from, false≢true}
use Rattle.std.proofs.lemmas.Str.{IsUtf8-from_ascii}
use Rattle.std.proofs.lemmas.Bool.Decides.{nat_tests}
use Rattle.std.specs.List.{list_all}
use Rattle.std.proofs.lemmas.List.Recursion.{same_from_clauses}
use Rattle.word.specs.Words.{Shown}
use Rattle.rules.specs.Words.{letter, item_byte, item_bytes, is_word}

take_front : (xs ys : List ℕ) → take (length xs) (xs ++ ys) ≡ xs
take_front [] ys = search rules
take_front (x ∷ xs) ys = ap (λ zs. x ∷ zs) (take_front xs ys)

-- the bytes that were copied in front of the array are the word's
pub held_front : (raw mid ys : List ℕ) → mid ≡ raw → length raw ≤ 12 → take (min (length raw) 12) (mid ++ ys) ≡ raw
held_front raw mid ys e h =
    let m : min (length raw) 12 ≡ length raw = search rules in
    ap (λ n. take n (mid ++ ys)) m ∙ ap (λ zs. take (length raw) (zs ++ ys)) e ∙ take_front raw ys

letter_is_item : (b : ℕ) → letter b ≡ true → item_byte b ≡ true
letter_is_item b h = grind (arith, nat_tests)

-- what `all` answers of the bytes
pub items_all : (bs : List ℕ) (r : Bool) → r ≡ list_all item_byte bs → r ≡ item_bytes bs
items_all bs r e = e ∙ same_from_clauses (list_all item_byte) item_bytes (λ b t. item_byte b && t) refl (λ _ _. refl) (λ _ _. refl) bs

item_is_ascii : (b : ℕ) → item_byte b ≡ true → b < 128
item_is_ascii b h = grind (arith, nat_tests)

items_are_ascii : (bs : List ℕ) → item_bytes bs ≡ true → IsAscii bs
items_are_ascii [] h = IsAscii-nil
items_are_ascii (b ∷ bs) h = let t = and_parts _ _ h in IsAscii-cons b bs (item_is_ascii b t.0) (items_are_ascii bs t.1)

-- a word is text
pub word_is_text : (bs : List ℕ) → is_word bs ≡ true → IsUtf8 bs
word_is_text [] h = absurd (false≢true h)
word_is_text (b ∷ bs) h =
    let t = and_parts _ _ (and_parts _ _ h).0 in
    IsUtf8-from_ascii (b ∷ bs) (items_are_ascii (b ∷ bs) (and_from _ _ (letter_is_item b t.0) t.1))

-- the text that bytes are, or none where they are no text
pub shown_or_none : {E : Type 0} (Why : E → Type 0) (bs : List ℕ) (r : Result (Bor (List ℕ)) E) (none : Bor (List ℕ)) → none.now ≡ [] → MatchResult r (λ s. (s.now ≡ bs) × IsUtf8 bs) (λ e. ¬ (IsUtf8 bs) × Why e) → Shown bs (result_unwrap_or r none).now
shown_or_none Why bs (Ok s) none n h = (λ _. h.0, λ _. h.0, λ no. absurd (no h.1))
shown_or_none Why bs (Err e) none n h = (λ u. absurd (h.0 u), λ w. absurd (h.0 (word_is_text bs w)), λ _. n)
