-- One byte of a text, as the rules scan it.
use Rattle.std.proofs.Common.{◌≡◌, ℕ, ◌+◌, ◌-◌, ◌<◌, ◌≤◌, true, false, cond, eqb, List, [], ◌∷◌, ◌++◌, reverse, length, get_or, take, drop, sym, refl, ap, ◌∙◌, arith}
use mathlib.Core.List.{reverse-append}
use Rattle.std.proofs.lemmas.List.{reverse-reverse, length-reverse, length-take-le, length-drop, take_more, get_or-drop}
use Rattle.std.proofs.lemmas.Bool.{cond-true, cond-false, ne_eqb, eq-eqb}
use Rattle.rules.specs.declared.cause.Cause.{Cause}
use Rattle.rules.specs.Words.{Home, item_byte}
use Rattle.rules.specs.Reading.{reads, refused, Progress, scan, finish, mark, placed, item_of, ended, ◌>>=◌}
use Rattle.text.specs.Reads.{pending}

pub item_more : (h : Home) (b : ℕ) (rest : List ℕ) (at : ℕ) (pend : List ℕ) (p : Progress) → item_byte b ≡ true → scan h (b ∷ rest) at pend p ≡ scan h rest (at + 1) (b ∷ pend) p
unfolding scan
item_more h b rest at pend p e = cond-true (item_byte b) _ _ e

-- a byte that ends the item before it
marked : (h : Home) (b : ℕ) (rest : List ℕ) (at : ℕ) (pend : List ℕ) (p : Progress) → item_byte b ≡ false → scan h (b ∷ rest) at pend p ≡ ◌>>=◌ (finish h at pend p) (λ q. ◌>>=◌ (mark h b at q) (λ r. scan h rest (at + 1) [] r))
unfolding scan
marked h b rest at pend p e = cond-false (item_byte b) _ _ e

pub mark_done : (h : Home) (b : ℕ) (rest : List ℕ) (at : ℕ) (pend : List ℕ) (p q r : Progress) → item_byte b ≡ false → finish h at pend p ≡ reads q → mark h b at q ≡ reads r → scan h (b ∷ rest) at pend p ≡ scan h rest (at + 1) [] r
mark_done h b rest at pend p q r e f m =
    marked h b rest at pend p e ∙ ap (λ x. ◌>>=◌ x (λ q. ◌>>=◌ (mark h b at q) (λ r. scan h rest (at + 1) [] r))) f ∙ ap (λ x. ◌>>=◌ x (λ r. scan h rest (at + 1) [] r)) m

pub item_refused : (h : Home) (b : ℕ) (rest : List ℕ) (at : ℕ) (pend : List ℕ) (p : Progress) (c : Cause) (k : ℕ) → item_byte b ≡ false → finish h at pend p ≡ refused c k → scan h (b ∷ rest) at pend p ≡ refused c k
item_refused h b rest at pend p c k e f =
    marked h b rest at pend p e ∙ ap (λ x. ◌>>=◌ x (λ q. ◌>>=◌ (mark h b at q) (λ r. scan h rest (at + 1) [] r))) f

pub mark_refused : (h : Home) (b : ℕ) (rest : List ℕ) (at : ℕ) (pend : List ℕ) (p q : Progress) (c : Cause) (k : ℕ) → item_byte b ≡ false → finish h at pend p ≡ reads q → mark h b at q ≡ refused c k → scan h (b ∷ rest) at pend p ≡ refused c k
mark_refused h b rest at pend p q c k e f m =
    marked h b rest at pend p e ∙ ap (λ x. ◌>>=◌ x (λ q. ◌>>=◌ (mark h b at q) (λ r. scan h rest (at + 1) [] r))) f ∙ ap (λ x. ◌>>=◌ x (λ r. scan h rest (at + 1) [] r)) m

-- the end of the text
pub at_end : (h : Home) (at : ℕ) (pend : List ℕ) (p : Progress) → scan h [] at pend p ≡ ◌>>=◌ (finish h at pend p) (λ q. ended at q.forms q.opened)
unfolding scan
at_end h at pend p = refl

-- the item that ends, by its bytes in order
finish_in_order : (h : Home) (at : ℕ) (p : Progress) (ys xs : List ℕ) → reverse ys ≡ xs → finish h at ys p ≡ cond (eqb (length xs) 0) (reads p) (placed h (at - length xs) p (item_of h xs))
finish_in_order h at p [] xs e = sym (cond-true (eqb (length xs) 0) _ _ (eq-eqb _ _ (sym (ap length e))))
finish_in_order h at p (y ∷ ys) xs e =
    let l : length xs ≡ length (y ∷ ys) = sym (ap length e) ∙ length-reverse (y ∷ ys) in
    let same : finish h at (y ∷ ys) p ≡ placed h (at - length xs) p (item_of h xs) = ap (λ n. placed h (at - n) p (item_of h (reverse (y ∷ ys)))) (sym l) ∙ ap (λ zs. placed h (at - length xs) p (item_of h zs)) e in
    same ∙ sym (cond-false (eqb (length xs) 0) _ _ (ne_eqb _ _ (λ z. omega arith)))

pub finish_pending : (h : Home) (bytes : List ℕ) (start at : ℕ) (p : Progress) → start ≤ at → at ≤ length bytes → finish h at (pending bytes start at) p ≡ cond (eqb (length (take (at - start) (drop start bytes))) 0) (reads p) (placed h start p (item_of h (take (at - start) (drop start bytes))))
finish_pending h bytes start at p s a =
    let item = take (at - start) (drop start bytes) in
    let l : length item ≡ at - start = length-take-le (at - start) (drop start bytes) (omega (arith, length-drop start bytes)) in
    let n : at - length item ≡ start = omega (arith, l) in
    finish_in_order h at p (reverse item) item (reverse-reverse item) ∙ ap (λ n. cond (eqb (length item) 0) (reads p) (placed h n p (item_of h item))) n

pub pending_more : (bytes : List ℕ) (start at : ℕ) → start ≤ at → at < length bytes → pending bytes start (at + 1) ≡ get_or bytes at 0 ∷ pending bytes start at
pending_more bytes start at s a =
    let xs = drop start bytes in
    let i = at - start in
    let n : at + 1 - start ≡ i + 1 = omega arith in
    let m : start + i ≡ at = omega arith in
    let b : get_or xs i 0 ≡ get_or bytes at 0 = get_or-drop start bytes i 0 ∙ ap (λ k. get_or bytes k 0) m in
    let l : i < length xs = omega (arith, length-drop start bytes) in
    let t : take (at + 1 - start) xs ≡ take i xs ++ get_or bytes at 0 ∷ [] = ap (λ k. take k xs) n ∙ take_more xs i 0 l ∙ ap (λ k. take i xs ++ k ∷ []) b in
    ap reverse t ∙ reverse-append (take i xs) (get_or bytes at 0 ∷ [])

pub pending_none : (bytes : List ℕ) (at : ℕ) → pending bytes at at ≡ []
pending_none bytes at = let n : at - at ≡ 0 = omega arith in ap (λ n. reverse (take n (drop at bytes))) n

-- what the end of the text gives
pub end_done : (h : Home) (at : ℕ) (pend : List ℕ) (p q : Progress) → finish h at pend p ≡ reads q → scan h [] at pend p ≡ ended at q.forms q.opened
end_done h at pend p q f = at_end h at pend p ∙ ap (λ x. ◌>>=◌ x (λ q. ended at q.forms q.opened)) f

pub end_refused : (h : Home) (at : ℕ) (pend : List ℕ) (p : Progress) (c : Cause) (k : ℕ) → finish h at pend p ≡ refused c k → scan h [] at pend p ≡ refused c k
end_refused h at pend p c k f = at_end h at pend p ∙ ap (λ x. ◌>>=◌ x (λ q. ended at q.forms q.opened)) f
