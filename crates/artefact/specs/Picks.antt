-- Choices by a word, and answers under tests.
use Rattle.std.specs.Prelude.{◌≡◌, ℕ, Bool, true, false, cond, List, [], ◌∷◌, Some, None, codes, Option, ◌≢◌, refl}
use Rattle.std.proofs.Common.{sym, subst, arith}
use Rattle.std.specs.Option.{option_map}
use Rattle.std.specs.List.{AllByRecursion}
use Rattle.std.specs.Str.{bytes_eq}
use Rattle.std.proofs.lemmas.Slice.Eq.{bytes_eq-Decides}
use Rattle.rules.specs.Words.{Spelling}
use Rattle.artefact.specs.Fields.{when, chain, pick, is_unused, Got}

module _ {A : Type 0} where
  pub some_same : (x y : A) → Some x ≡ Some y → x ≡ y
  some_same x y e = cc

  pub none_some : {B : Type 0} (x : A) → None ≡ Some x → B
  none_some x e = absurd (let z : ◌≡◌ {A = ℕ} 0 1 = cc in omega arith)

  -- what is made under a test
  pub when_some : (b : Bool) (o : Option A) (x : A) → when b o ≡ Some x → (b ≡ true) × (o ≡ Some x)
  when_some true o x e = (refl, e)
  when_some false o x e = none_some x e

  pub when_true : (b : Bool) (o : Option A) → b ≡ true → when b o ≡ o
  when_true true o t = refl
  when_true false o t = absurd (let z : ◌≡◌ {A = ℕ} 0 1 = cc in omega arith)

  pub cond_some : (b : Bool) (x y : A) → cond b (Some x) None ≡ Some y → (b ≡ true) × (x ≡ y)
  cond_some true x y e = (refl, some_same x y e)
  cond_some false x y e = none_some y e

  pub mapped_some : {B : Type 0} (f : B → A) (o : Option B) (x : A) → option_map f o ≡ Some x → (y : B) × (o ≡ Some y) × (f y ≡ x)
  mapped_some f None x e = none_some x e
  mapped_some f (Some y) x e = (y, refl, some_same (f y) x e)

  pub chain_some : {B : Type 0} (o : Option B) (f : B → Option A) (x : A) → chain o f ≡ Some x → (y : B) × (o ≡ Some y) × (f y ≡ Some x)
  chain_some None f x e = none_some x e
  chain_some (Some y) f x e = (y, refl, e)

  -- what is picked was picked by its word
  pub pick_some : (P : Type 0) (w : Spelling) (xs : List (Spelling × Option A)) (q : A) → AllByRecursion (λ x. w ≡ x.0 → x.1 ≡ Some q → P) xs → pick w xs ≡ Some q → P
  pick_some P w [] q h e = none_some q e
  pick_some P w (x ∷ xs) q h e = by (bytes_eq w x.0) (bytes_eq-Decides w x.0).0 (pick_some P w xs q h.1) e
    where
      by : (b : Bool) → (b ≡ true → w ≡ x.0) → (pick w xs ≡ Some q → P) → cond b x.1 (pick w xs) ≡ Some q → P
      by true same later f = h.0 (same refl) f
      by false same later f = later f

  -- a word that none stands under
  pub pick_none : (w : Spelling) (xs : List (Spelling × Option A)) → AllByRecursion (λ x. w ≢ x.0) xs → pick w xs ≡ None
  pick_none w [] h = refl
  pick_none w (x ∷ xs) h = by (bytes_eq w x.0) (bytes_eq-Decides w x.0).0 (pick_none w xs h.1)
    where
      by : (b : Bool) → (b ≡ true → w ≡ x.0) → pick w xs ≡ None → cond b x.1 (pick w xs) ≡ None
      by true same later = absurd (h.0 (same refl))
      by false same later = later

pub unused_is : (w : Spelling) → is_unused w ≡ true → w ≡ codes "-"
unused_is w t = (bytes_eq-Decides w (codes "-")).0 t

-- what the code got, and what it did not
pub got_some : {X Q : Type 0} (same : X → Q → Type 0) (o : Option Q) (x : X) → Got same o (Some x) → (q : Q) × (o ≡ Some q) × same x q
got_some same None x g = absurd g
got_some same (Some q) x g = (q, refl, g)

pub got_none : {X Q : Type 0} (same : X → Q → Type 0) (o : Option Q) → Got same o None → o ≡ None
got_none same None g = refl
got_none same (Some q) g = absurd g

pub none_got : {X Q : Type 0} (same : X → Q → Type 0) (o : Option Q) → o ≡ None → Got same o None
none_got same None e = tt
none_got same (Some q) e = none_some q (sym e)

pub some_got : {X Q : Type 0} (same : X → Q → Type 0) (o : Option Q) (q : Q) (x : X) → o ≡ Some q → same x q → Got same o (Some x)
some_got same None q x e s = none_some q e
some_got same (Some p) q x e s = subst (same x) (sym (some_same p q e)) s
