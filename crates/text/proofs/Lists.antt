-- Lists of values and of data, element by element, and the lists that are built of them.
use Rattle.std.proofs.Common.{◌≡◌, List, [], ◌∷◌, ◌++◌, length, refl, ap, ◌∙◌, subst, arith}
use Rattle.std.proofs.lemmas.List.{append_assoc}
use Rattle.rules.specs.Words.{Datum, list_of}
use Rattle.text.specs.declared.data.Value.{Value}
use Rattle.text.specs.declared.data.Cell.{Cell}
use Rattle.text.specs.Data.{Each, Stands, Grows}
use Rattle.text.proofs.Means.{stands_on, grows_by, grows_twice, pair_pushed}

-- what holds of each pair of elements goes on to hold where one relation implies the other
pub each_on : {A B : Type 0} (R S : A → B → Type 0) → ((a : A) (b : B) → R a b → S a b) → (xs : List A) (ys : List B) → Each R xs ys → Each S xs ys
each_on R S f [] [] e = e
each_on R S f [] (y ∷ ys) e = e
each_on R S f (x ∷ xs) [] e = e
each_on R S f (x ∷ xs) (y ∷ ys) e = (f x y e.0, each_on R S f xs ys e.1)

pub each_push : {A B : Type 0} (R : A → B → Type 0) (xs : List A) (ys : List B) (x : A) (y : B) → Each R xs ys → R x y → Each R (xs ++ x ∷ []) (ys ++ y ∷ [])
each_push R [] [] x y e r = (r, e)
each_push R [] (b ∷ ys) x y e r = absurd e
each_push R (a ∷ xs) [] x y e r = absurd e
each_push R (a ∷ xs) (b ∷ ys) x y e r = (e.0, each_push R xs ys x y e.1 r)

-- the last of both lists
pub record Last {A B : Type 0} (R : A → B → Type 0) (xs : List A) (x : A) (ys : List B) : Type 0 where
  pub before : List B
  pub last : B
  pub is : ys ≡ before ++ last ∷ []
  pub holds : R x last
  pub each : Each R xs before

pub each_last : {A B : Type 0} (R : A → B → Type 0) (xs : List A) (x : A) (ys : List B) → Each R (xs ++ x ∷ []) ys → Last R xs x ys
each_last R [] x [] e = absurd e
each_last R [] x (y ∷ []) e = record { before = []; last = y; is = refl; holds = e.0; each = tt }
each_last R [] x (y ∷ (z ∷ ys)) e = absurd e.1
each_last R (a ∷ xs) x [] e = absurd e
each_last R (a ∷ xs) x (b ∷ ys) e =
    let l = each_last R xs x ys e.1 in
    record { before = b ∷ l.before; last = l.last; is = ap (λ zs. b ∷ zs) l.is; holds = l.holds; each = (e.0, l.each) }

-- a list that is built from its end: the values that are left, and the list of those behind them
pub record Gathering (cs es : List Cell) (vs left : List Value) (w : Value) : Type 0 where
  pub grown : Grows cs es
  pub each : (ds : List Datum) → Each (Stands cs) vs ds → (before : List Datum) × (done : List Datum) × (ds ≡ before ++ done) × Each (Stands cs) left before × Stands es w (list_of done)

pub gathered_more : (cs es fs : List Cell) (vs left less : List Value) (v w x : Value) → left ≡ less ++ v ∷ [] → x ≡ Value.Pair (length es) → fs ≡ es ++ record { head = v; tail = w } ∷ [] → Gathering cs es vs left w → Gathering cs fs vs less x
gathered_more cs es fs vs left less v w x n i e l = record {
  grown = grows_twice cs es fs l.grown (grows_by es fs _ e);
  each = λ ds m.
      let k = l.each ds m in
      let t = each_last (Stands cs) less v k.0 (subst (λ (xs : List Value). Each (Stands cs) xs k.0) n k.3) in
      (t.before, t.last ∷ k.1, k.2 ∙ ap (λ xs. xs ++ k.1) t.is ∙ append_assoc t.before (t.last ∷ []) k.1, t.each, pair_pushed es fs v w x t.last (list_of k.1) i e (stands_on cs es v t.last l.grown t.holds) k.4);
}
