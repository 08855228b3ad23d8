-- The columns of a row: what is read of them is the row, and no other columns are read as it.
use Rattle.std.specs.Prelude.{◌≡◌, ℕ, ◌^◌, ◌<◌, ◌≤◌, Bool, true, false, cond, ◌&&◌, List, [], ◌∷◌, Some, None, codes, decimal, Option, ◌==◌, nat_le, refl}
use Rattle.std.proofs.Common.{sym, ap, subst, ◌∙◌, ⊎_elim, arith, lit<}
use Rattle.std.specs.Option.{option_map}
use Rattle.std.specs.Fmt.{signed_decimal}
use Rattle.std.specs.Str.{bytes_eq}
use Rattle.std.proofs.lemmas.Slice.Eq.{bytes_eq-Decides}
use Rattle.std.proofs.lemmas.Bool.{and_parts, and_from, and_left, cases_Bool, cond-true, cond-false, eqb-true, leb-true, le-leb}
use Rattle.rules.specs.declared.primitive.Primitive.{Primitive}
use Rattle.rules.specs.Words.{Spelling, Home, is_word, arity_of, prim_spelling, prim_named, prims, named_among}
use Rattle.rules.specs.Rows.{Row, number_row, empty_row, name_row, local_row, variable_row, set_row, if_row, let_row, do_row, call_row, prim_row}
use Rattle.rules.specs.Artefact.{unused, row_line}
use Rattle.rules.specs.Reading.{numeral}
use Rattle.modules.specs.Limits.{home_within, row_within}
use Rattle.artefact.specs.Fields.{when, chain, pick, is_unused, small, home_from, plain_arms, worded_arms, named_arms, row_from}
use Rattle.artefact.specs.Picks.{some_same, none_some, when_some, when_true, mapped_some, chain_some, pick_some, unused_is}
use Rattle.artefact.specs.Numbers.{read_signed, written_as, read_small, written_small}
use Rattle.artefact.specs.LinesLemmas.{Five, fields, same_fields, line_of, AllPlain, Plain, plain_word, plain_decimal, plain_signed, plain_primitive, word_used}

abbrev pub row_five : Row → Five
row_five (number_row z) = fields (codes "number") unused unused unused (signed_decimal z)
row_five empty_row = fields (codes "empty") unused unused unused unused
row_five (name_row w h) = fields (codes "name") w h.module_name (decimal h.base) unused
row_five (local_row i) = fields (codes "local") unused unused unused (decimal i)
row_five (variable_row w h) = fields (codes "variable") w h.module_name (decimal h.base) unused
row_five (set_row w) = fields (codes "set") w unused unused unused
row_five if_row = fields (codes "if") unused unused unused unused
row_five let_row = fields (codes "let") unused unused unused unused
row_five (do_row n) = fields (codes "do") unused unused unused (decimal n)
row_five (call_row w h n) = fields (codes "call") w h.module_name (decimal h.base) (decimal n)
row_five (prim_row p n) = fields (codes "prim") (prim_spelling p) unused unused (decimal n)

pub row_line_is : (q : Row) → row_line q ≡ line_of (row_five q)
row_line_is (number_row z) = refl
row_line_is empty_row = refl
row_line_is (name_row w h) = refl
row_line_is (local_row i) = refl
row_line_is (variable_row w h) = refl
row_line_is (set_row w) = refl
row_line_is if_row = refl
row_line_is let_row = refl
row_line_is (do_row n) = refl
row_line_is (call_row w h n) = refl
row_line_is (prim_row p n) = refl

abbrev pub from : Five → Option Row
from f = row_from f.a f.b f.c f.d f.e

-- a home within the limits, in parts
home_parts : (h : Home) → home_within h ≡ true → (is_word h.module_name ≡ true) × (h.base ≤ 15)
home_parts h t = let u = and_parts (is_word h.module_name) (nat_le h.base 15) t in (u.0, leb-true h.base 15 u.1)

pub named_parts : (w : Spelling) (h : Home) → (is_word w && home_within h) ≡ true → (is_word w ≡ true) × (is_word h.module_name ≡ true) × (h.base ≤ 15)
named_parts w h t = let u = and_parts (is_word w) (home_within h) t in let v = home_parts h u.1 in (u.0, v.0, v.1)

pub arity_small : (p : Primitive) → arity_of p ≤ 2
arity_small p = leb-true (arity_of p) 2 (by p)
  where
    by : (p : Primitive) → nat_le (arity_of p) 2 ≡ true
    by Primitive.Add = refl
    by Primitive.Sub = refl
    by Primitive.Mul = refl
    by Primitive.Less = refl
    by Primitive.Same = refl
    by Primitive.Pair = refl
    by Primitive.Head = refl
    by Primitive.Tail = refl
    by Primitive.IsPair = refl
    by Primitive.IsNumber = refl
    by Primitive.IsName = refl
    by Primitive.Print = refl

-- a primitive is known by its name, which is not the mark of an unused field
known : (p : Primitive) → (prim_named (prim_spelling p) ≡ Some p) × (is_unused (prim_spelling p) ≡ false)
known Primitive.Add = (refl, refl)
known Primitive.Sub = (refl, refl)
known Primitive.Mul = (refl, refl)
known Primitive.Less = (refl, refl)
known Primitive.Same = (refl, refl)
known Primitive.Pair = (refl, refl)
known Primitive.Head = (refl, refl)
known Primitive.Tail = (refl, refl)
known Primitive.IsPair = (refl, refl)
known Primitive.IsNumber = (refl, refl)
known Primitive.IsName = (refl, refl)
known Primitive.Print = (refl, refl)

-- a row with a home: its word and home are read first
with_home : (op w : Spelling) (h : Home) (n : Spelling) → is_word w ≡ true → is_word h.module_name ≡ true → h.base ≤ 15 → row_from op w h.module_name (decimal h.base) n ≡ pick op (named_arms w h n)
with_home op w h n p q l =
    let home : home_from h.module_name (decimal h.base) ≡ Some h = when_true (is_word h.module_name) _ q ∙ ap (option_map (λ b. record { module_name = h.module_name; base = b })) (read_small 15 h.base l (lit< tt)) in
    cond-false _ _ _ (and_left (is_unused h.module_name) (is_unused (decimal h.base)) (word_used h.module_name q)) ∙ ap (λ o. chain o (λ g. when (is_word w) (pick op (named_arms w g n)))) home ∙ when_true (is_word w) _ p

-- a row with a home that is none, or with no word
module _ (op w m b n : Spelling) (used : (is_unused m && is_unused b) ≡ false) where
  from_home : row_from op w m b n ≡ chain (home_from m b) (λ h. when (is_word w) (pick op (named_arms w h n)))
  from_home = cond-false (is_unused m && is_unused b) _ _ used

  pub no_home : home_from m b ≡ None → row_from op w m b n ≡ None
  no_home e = from_home ∙ ap (λ o. chain o (λ h. when (is_word w) (pick op (named_arms w h n)))) e

  pub no_word : (h : Home) → home_from m b ≡ Some h → is_word w ≡ false → row_from op w m b n ≡ None
  no_word h e t = from_home ∙ ap (λ o. chain o (λ h. when (is_word w) (pick op (named_arms w h n)))) e ∙ ap (λ b. when b (pick op (named_arms w h n))) t

  pub homed_row : (h : Home) → home_from m b ≡ Some h → is_word w ≡ true → row_from op w m b n ≡ pick op (named_arms w h n)
  homed_row h e t = from_home ∙ ap (λ o. chain o (λ h. when (is_word w) (pick op (named_arms w h n)))) e ∙ ap (λ b. when b (pick op (named_arms w h n))) t

-- a row that keeps the limits is read back
pub row_back : (q : Row) → row_within q ≡ true → from (row_five q) ≡ Some q
row_back (number_row z) t = ap (option_map number_row) (read_signed z t)
row_back empty_row t = refl
row_back (name_row w h) t = let u = named_parts w h t in with_home (codes "name") w h unused u.0 u.1 u.2
row_back (local_row i) t = ap (option_map local_row) (read_small 15 i (leb-true i 15 t) (lit< tt))
row_back (variable_row w h) t = let u = named_parts w h t in with_home (codes "variable") w h unused u.0 u.1 u.2
row_back (set_row w) t = cond-false _ _ _ (word_used w t) ∙ when_true (is_word w) _ t
row_back if_row t = refl
row_back let_row t = refl
row_back (do_row n) t =
    let u = and_parts (nat_le 1 n) (nat_le n 127) t in
    ap (λ o. chain o (λ k. when (nat_le 1 k) (Some (do_row k)))) (read_small 127 n (leb-true n 127 u.1) (lit< tt)) ∙ when_true (nat_le 1 n) _ u.0
row_back (call_row w h n) t =
    let u = and_parts (is_word w && home_within h) (nat_le n 4) t in
    let v = named_parts w h u.0 in
    with_home (codes "call") w h (decimal n) v.0 v.1 v.2 ∙ ap (option_map (call_row w h)) (read_small 4 n (leb-true n 4 u.1) (lit< tt))
row_back (prim_row p n) t =
    let few : n ≤ 2 = omega (arith, eqb-true n (arity_of p) t, arity_small p) in
    cond-false _ _ _ (known p).1 ∙ ap (λ o. chain o (λ g. chain (small 2 (decimal n)) (λ k. when (k == arity_of g) (Some (prim_row g k))))) (known p).0 ∙ ap (λ o. chain o (λ k. when (k == arity_of p) (Some (prim_row p k)))) (read_small 2 n few (lit< tt)) ∙ when_true (n == arity_of p) _ t

small_plain : (n most : ℕ) → n ≤ most → most < 2 ^ 64 → Plain (decimal n)
small_plain n most l m = plain_decimal n (omega arith)

named_plain : (op w : Spelling) (h : Home) (n : Spelling) → Plain op → Plain n → (is_word w && home_within h) ≡ true → AllPlain (fields op w h.module_name (decimal h.base) n)
named_plain op w h n p q t =
    let u = named_parts w h t in
    record { pa = p; pb = plain_word w u.0; pc = plain_word h.module_name u.1; pd = small_plain h.base 15 u.2 (lit< tt); pe = q }

bare_plain : (op n : Spelling) → Plain op → Plain n → AllPlain (fields op unused unused unused n)
bare_plain op n p q = record { pa = p; pb = refl; pc = refl; pd = refl; pe = q }

pub row_plain : (q : Row) → row_within q ≡ true → AllPlain (row_five q)
row_plain (number_row z) t = bare_plain (codes "number") (signed_decimal z) refl (plain_signed z t)
row_plain empty_row t = bare_plain (codes "empty") unused refl refl
row_plain (name_row w h) t = named_plain (codes "name") w h unused refl refl t
row_plain (local_row i) t = bare_plain (codes "local") (decimal i) refl (small_plain i 15 (leb-true i 15 t) (lit< tt))
row_plain (variable_row w h) t = named_plain (codes "variable") w h unused refl refl t
row_plain (set_row w) t = record { pa = refl; pb = plain_word w t; pc = refl; pd = refl; pe = refl }
row_plain if_row t = bare_plain (codes "if") unused refl refl
row_plain let_row t = bare_plain (codes "let") unused refl refl
row_plain (do_row n) t =
    bare_plain (codes "do") (decimal n) refl (small_plain n 127 (leb-true n 127 (and_parts (nat_le 1 n) (nat_le n 127) t).1) (lit< tt))
row_plain (call_row w h n) t =
    let u = and_parts (is_word w && home_within h) (nat_le n 4) t in
    named_plain (codes "call") w h (decimal n) refl (small_plain n 4 (leb-true n 4 u.1) (lit< tt)) u.0
row_plain (prim_row p n) t = record {
  pa = refl;
  pb = plain_primitive p;
  pc = refl;
  pd = refl;
  pe = small_plain n 2 (omega (arith, eqb-true n (arity_of p) t, arity_small p)) (lit< tt);
}

-- What is read keeps the limits, and has just these columns.
pub record Sound (f : Five) (q : Row) : Type 0 where
  pub same : row_five q ≡ f
  pub within : row_within q ≡ true

sound : (f : Five) (q r : Row) → r ≡ q → row_five r ≡ f → row_within r ≡ true → Sound f q
sound f q r e s w = record { same = ap row_five (sym e) ∙ s; within = ap row_within (sym e) ∙ w }

module _ (op n : Spelling) (q : Row) where
  abbrev bare : Five
  bare = fields op unused unused unused n

  sound_unused : (o : Spelling) (r : Row) → row_five r ≡ fields o unused unused unused unused → row_within r ≡ true → op ≡ o → when (is_unused n) (Some r) ≡ Some q → Sound bare q
  sound_unused o r s w p e =
      let t = when_some (is_unused n) (Some r) q e in
      sound bare q r (some_same r q t.1) (s ∙ same_fields o unused unused unused unused op unused unused unused n (sym p) refl refl refl (sym (unused_is n t.0))) w

  sound_plain : pick op (plain_arms n) ≡ Some q → Sound bare q
  sound_plain =
      pick_some (Sound bare q) op (plain_arms n) q (
        λ p e. let t = mapped_some number_row (numeral n) q e in let u = written_as n t.0 t.1 in sound bare q (number_row t.0) t.2 (same_fields (codes "number") unused unused unused (signed_decimal t.0) op unused unused unused n (sym p) refl refl refl u.0) u.1,
        (
          sound_unused (codes "empty") empty_row refl refl,
          (
            λ p e. let t = mapped_some local_row (small 15 n) q e in let u = written_small 15 n t.0 t.1 in sound bare q (local_row t.0) t.2 (same_fields (codes "local") unused unused unused (decimal t.0) op unused unused unused n (sym p) refl refl refl u.0) (le-leb t.0 15 u.1),
            (
              sound_unused (codes "if") if_row refl refl,
              (
                sound_unused (codes "let") let_row refl refl,
                (
                  λ p e. let t = chain_some (small 127 n) (λ k. when (nat_le 1 k) (Some (do_row k))) q e in let u = written_small 127 n t.0 t.1 in let v = when_some (nat_le 1 t.0) (Some (do_row t.0)) q t.2 in sound bare q (do_row t.0) (some_same (do_row t.0) q v.1) (same_fields (codes "do") unused unused unused (decimal t.0) op unused unused unused n (sym p) refl refl refl u.0) (and_from (nat_le 1 t.0) (nat_le t.0 127) v.0 (le-leb t.0 127 u.1)),
                  tt,
                ),
              ),
            ),
          ),
        ),
      )

module _ (op w n : Spelling) (q : Row) where
  abbrev worded : Five
  worded = fields op w unused unused n

  spelled : (p : Primitive) → prim_named w ≡ Some p → prim_spelling p ≡ w
  spelled p e = by prims e
    where
      by : (ps : List Primitive) → named_among w ps ≡ Some p → prim_spelling p ≡ w
      by [] e = none_some p e
      by (g ∷ ps) e = at (bytes_eq w (prim_spelling g)) (bytes_eq-Decides w (prim_spelling g)).0 (by ps) e
        where
          at : (b : Bool) → (b ≡ true → w ≡ prim_spelling g) → (named_among w ps ≡ Some p → prim_spelling p ≡ w) → cond b (Some g) (named_among w ps) ≡ Some p → prim_spelling p ≡ w
          at true same later f = ap prim_spelling (sym (some_same g p f)) ∙ sym (same refl)
          at false same later f = later f

  sound_worded : pick op (worded_arms w n) ≡ Some q → Sound worded q
  sound_worded =
      pick_some (Sound worded q) op (worded_arms w n) q (
        λ p e. let t = when_some (is_word w) (when (is_unused n) (Some (set_row w))) q e in let u = when_some (is_unused n) (Some (set_row w)) q t.1 in sound worded q (set_row w) (some_same (set_row w) q u.1) (same_fields (codes "set") w unused unused unused op w unused unused n (sym p) refl refl refl (sym (unused_is n u.0))) t.0,
        (
          λ p e. let t = chain_some (prim_named w) (λ g. chain (small 2 n) (λ k. when (k == arity_of g) (Some (prim_row g k)))) q e in let u = chain_some (small 2 n) (λ k. when (k == arity_of t.0) (Some (prim_row t.0 k))) q t.2 in let v = when_some (u.0 == arity_of t.0) (Some (prim_row t.0 u.0)) q u.2 in let x = written_small 2 n u.0 u.1 in sound worded q (prim_row t.0 u.0) (some_same (prim_row t.0 u.0) q v.1) (same_fields (codes "prim") (prim_spelling t.0) unused unused (decimal u.0) op w unused unused n (sym p) (spelled t.0 t.1) refl refl x.0) v.0,
          tt,
        ),
      )

module _ (op w m b n : Spelling) (q : Row) where
  abbrev named : Five
  named = fields op w m b n

  module _ (h : Home) (is : h.module_name ≡ m) (at : decimal h.base ≡ b) (within : (is_word w && home_within h) ≡ true) where
    named_unused : (o : Spelling) (r : Row) → row_five r ≡ fields o w h.module_name (decimal h.base) unused → row_within r ≡ true → op ≡ o → when (is_unused n) (Some r) ≡ Some q → Sound named q
    named_unused o r s x p e =
        let t = when_some (is_unused n) (Some r) q e in
        sound named q r (some_same r q t.1) (s ∙ same_fields o w h.module_name (decimal h.base) unused op w m b n (sym p) refl is at (sym (unused_is n t.0))) x

    sound_named : pick op (named_arms w h n) ≡ Some q → Sound named q
    sound_named =
        pick_some (Sound named q) op (named_arms w h n) q (
          named_unused (codes "name") (name_row w h) refl within,
          (
            named_unused (codes "variable") (variable_row w h) refl within,
            (
              λ p e. let t = mapped_some (call_row w h) (small 4 n) q e in let u = written_small 4 n t.0 t.1 in sound named q (call_row w h t.0) t.2 (same_fields (codes "call") w h.module_name (decimal h.base) (decimal t.0) op w m b n (sym p) refl is at u.0) (and_from (is_word w && home_within h) (nat_le t.0 4) within (le-leb t.0 4 u.1)),
              tt,
            ),
          ),
        )

  sound_homed : chain (home_from m b) (λ h. when (is_word w) (pick op (named_arms w h n))) ≡ Some q → Sound named q
  sound_homed e =
      let t = chain_some (home_from m b) (λ h. when (is_word w) (pick op (named_arms w h n))) q e in
      let u = when_some (is_word m) (option_map (λ k. record { module_name = m; base = k }) (small 15 b)) t.0 t.1 in
      let v = mapped_some (λ k. record { module_name = m; base = k }) (small 15 b) t.0 u.1 in
      let x = written_small 15 b v.0 v.1 in
      let y = when_some (is_word w) (pick op (named_arms w t.0 n)) q t.2 in
      let is : t.0.module_name ≡ m = ap (λ (g : Home). g.module_name) (sym v.2) in
      let at : t.0.base ≡ v.0 = ap (λ (g : Home). g.base) (sym v.2) in
      let within : home_within t.0 ≡ true = and_from (is_word t.0.module_name) (nat_le t.0.base 15) (ap is_word is ∙ u.0) (le-leb t.0.base 15 (omega (arith, at, x.1))) in
      sound_named t.0 is (ap decimal at ∙ x.0) (and_from (is_word w) (home_within t.0) y.0 within) y.1

  pub row_sound : row_from op w m b n ≡ Some q → Sound named q
  row_sound e = ⊎_elim without (λ t. sound_homed (sym (cond-false (is_unused m && is_unused b) _ _ t) ∙ e)) (cases_Bool (is_unused m && is_unused b))
    where
      without : (is_unused m && is_unused b) ≡ true → Sound named q
      without t =
          let u = and_parts (is_unused m) (is_unused b) t in
          let f : cond (is_unused w) (pick op (plain_arms n)) (pick op (worded_arms w n)) ≡ Some q = sym (cond-true (is_unused m && is_unused b) _ _ t) ∙ e in
          let homeless : worded op w n q ≡ named = same_fields op w unused unused n op w m b n refl refl (sym (unused_is m u.0)) (sym (unused_is b u.1)) refl in
          ⊎_elim (λ v. bare_one v homeless (sym (cond-true (is_unused w) _ _ v) ∙ f)) (λ v. subst (λ g. Sound g q) homeless (sound_worded op w n q (sym (cond-false (is_unused w) _ _ v) ∙ f))) (cases_Bool (is_unused w))
        where
          bare_one : is_unused w ≡ true → worded op w n q ≡ named → pick op (plain_arms n) ≡ Some q → Sound named q
          bare_one v h g = subst (λ k. Sound k q) (ap (λ x. fields op x unused unused n) (sym (unused_is w v)) ∙ h) (sound_plain op n q g)
