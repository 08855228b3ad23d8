-- A text that is no name of a primitive, or no reserved word.
use Rattle.std.proofs.Common.{◌≡◌, Bool, true, false, cond, ◌||◌, List, [], ◌∷◌, is_some, Some, None, codes, Option, sym, refl, ap}
use Rattle.std.specs.Prelude.{is_ok, Ok, Err, Result}
use Rattle.std.specs.Result.{result_ok}
use Rattle.rules.specs.declared.primitive.Primitive.{Primitive}
use Rattle.std.specs.Str.{bytes_eq}
use Rattle.std.proofs.lemmas.Slice.Eq.{bytes_eq-Decides}
use Rattle.rules.specs.Words.{Spelling, among, core_words, prim_named, reserved}
use Rattle.std.specs.List.{AllByRecursion as All}
use Rattle.std.proofs.lemmas.Bool.{or_from}

-- one more name that the text is not
passed_over : {A : Type 0} (w v : Spelling) (p : A) (rest : Option A) → (w ≡ v → ⊥) → None ≡ rest → None ≡ cond (bytes_eq w v) (Some p) rest
passed_over w v p rest other h = by (bytes_eq w v) (bytes_eq-Decides w v).0
  where
    by : (b : Bool) → (b ≡ true → w ≡ v) → None ≡ cond b (Some p) rest
    by true same = absurd (other (same refl))
    by false same = h

abbrev Not : Spelling → Spelling → Type 0
Not w v = w ≡ v → ⊥

pub names_none : (w : Spelling) → Not w (codes "add") → Not w (codes "sub") → Not w (codes "mul") → Not w (codes "less") → Not w (codes "same") → Not w (codes "pair") → Not w (codes "head") → Not w (codes "tail") → Not w (codes "is-pair") → Not w (codes "is-number") → Not w (codes "is-name") → Not w (codes "print") → None ≡ prim_named w
names_none w add sub mul less same pair head tail is_pair is_number is_name print =
    passed_over w _ _ _ add
    (passed_over w _ _ _ sub
    (passed_over w _ _ _ mul
    (passed_over w _ _ _ less
    (passed_over w _ _ _ same
    (passed_over w _ _ _ pair
    (passed_over w _ _ _ head
    (passed_over w _ _ _ tail
    (passed_over w _ _ _ is_pair
    (passed_over w _ _ _ is_number
    (passed_over w _ _ _ is_name
    (passed_over w _ _ _ print refl)))))))))))

-- a text that parses names a primitive
pub named_ok : {E : Type 0} (w : Spelling) (r : Result Primitive E) → result_ok r ≡ prim_named w → is_ok r ≡ is_some (prim_named w)
named_ok w (Ok p) h = ap is_some h
named_ok w (Err e) h = ap is_some h

not_among : (w : Spelling) (vs : List Spelling) → All (Not w) vs → among w vs ≡ false
not_among w [] h = refl
not_among w (v ∷ vs) h = or_from (bytes_eq w v) (among w vs) (other (bytes_eq w v) (bytes_eq-Decides w v).0) (not_among w vs h.1)
  where
    other : (b : Bool) → (b ≡ true → w ≡ v) → b ≡ false
    other true same = absurd (h.0 (same refl))
    other false same = refl

-- a text that is no core word is reserved just if it names a primitive
pub no_core_word : (w : Spelling) → All (Not w) core_words → is_some (prim_named w) ≡ reserved w
no_core_word w h = sym (ap (λ b. b || is_some (prim_named w)) (not_among w core_words h))
