-- The columns of a definition's line: what is read of them is the heading, and no other columns are read as it.
use Rattle.std.specs.Prelude.{◌≡◌, ℕ, ◌≤◌, true, false, ◌&&◌, Some, None, codes, decimal, Option, nat_le, refl}
use Rattle.std.proofs.Common.{sym, ap, subst, ◌∙◌, arith, lit<}
use Rattle.std.specs.Option.{option_map}
use Rattle.std.specs.Str.{bytes_eq}
use Rattle.std.proofs.lemmas.Fmt.{decimal_digit}
use Rattle.std.proofs.lemmas.Slice.Eq.{bytes_eq-Decides}
use Rattle.std.proofs.lemmas.Bool.{and_parts, and_from, leb-true, le-leb}
use Rattle.rules.specs.Words.{Spelling, is_word}
use Rattle.rules.specs.Rows.{Kind, variable_of, procedure_of, macro_of, action}
use Rattle.rules.specs.Artefact.{unused, kind_word, kind_name, parameters}
use Rattle.modules.specs.Limits.{free_name, kind_within}
use Rattle.modules.specs.Whole.{Heading, HeadingWithin}
use Rattle.artefact.specs.Fields.{when, chain, pick, is_unused, small, kind_arms, may_stand, heading_from}
use Rattle.artefact.specs.Picks.{some_same, when_some, when_true, mapped_some, chain_some, pick_some, unused_is}
use Rattle.artefact.specs.Numbers.{read_small, written_small}
use Rattle.artefact.specs.LinesLemmas.{Five, fields, same_fields, AllPlain, Plain, plain_word, plain_decimal}

abbrev pub heading_five : Heading → Five
heading_five h = fields (decimal h.level) (kind_word h.kind) (kind_name h.kind) (decimal (parameters h.kind)) (decimal h.rows)

nought : decimal 0 ≡ codes "0"
nought = decimal_digit 0 (lit< tt)

one : decimal 1 ≡ codes "1"
one = decimal_digit 1 (lit< tt)

pub free_word : (w : Spelling) → free_name w ≡ true → is_word w ≡ true
free_word w t = (and_parts (is_word w) _ t).0

-- what a kind within the limits is known by
pub record Parts (level : ℕ) (k : Kind) : Type 0 where
  pub level_few : level ≤ 3
  pub picked : pick (kind_word k) (kind_arms (kind_name k) (decimal (parameters k))) ≡ Some k
  pub word_plain : Plain (kind_word k)
  pub name_plain : Plain (kind_name k)
  pub params_few : parameters k ≤ 4
  pub stands : may_stand level k ≡ true

pub kind_parts : (level : ℕ) (k : Kind) → kind_within level k ≡ true → Parts level k
kind_parts level (variable_of w) t =
    let u = and_parts (nat_le level 3) (free_name w) t in
    record {
      level_few = leb-true level 3 u.0;
      picked = ap (λ n. pick (codes "variable") (kind_arms w n)) nought ∙ when_true (free_name w) _ u.1;
      word_plain = refl;
      name_plain = plain_word w (free_word w u.1);
      params_few = omega arith;
      stands = refl;
    }
kind_parts level (procedure_of w n) t =
    let u = and_parts (nat_le level 3 && free_name w) (nat_le n 4) t in
    let v = and_parts (nat_le level 3) (free_name w) u.0 in
    let few = leb-true n 4 u.1 in
    record {
      level_few = leb-true level 3 v.0;
      picked = when_true (free_name w) _ v.1 ∙ ap (option_map (procedure_of w)) (read_small 4 n few (lit< tt));
      word_plain = refl;
      name_plain = plain_word w (free_word w v.1);
      params_few = few;
      stands = refl;
    }
kind_parts level (macro_of w) t =
    let u = and_parts (nat_le level 2) (free_name w) t in
    record {
      level_few = omega (arith, leb-true level 2 u.0);
      picked = ap (λ n. pick (codes "macro") (kind_arms w n)) one ∙ when_true (free_name w) _ u.1;
      word_plain = refl;
      name_plain = plain_word w (free_word w u.1);
      params_few = omega arith;
      stands = u.0;
    }
kind_parts level action t = record {
  level_few = leb-true level 3 t;
  picked = ap (λ n. pick (codes "action") (kind_arms unused n)) nought;
  word_plain = refl;
  name_plain = refl;
  params_few = omega arith;
  stands = refl;
}

-- the columns one after another, and where one is refused
module _ (l k w n r : Spelling) (level : ℕ) (first : small 3 l ≡ Some level) where
  abbrev at_level : Option Kind → Option Heading
  at_level o = chain o (λ kind. chain (small 128 r) (λ rows. when (may_stand level kind) (Some (record { level = level; kind = kind; rows = rows }))))

  from_kind : heading_from l k w n r ≡ at_level (pick k (kind_arms w n))
  from_kind = ap (λ o. chain o (λ level. chain (pick k (kind_arms w n)) (λ kind. chain (small 128 r) (λ rows. when (may_stand level kind) (Some (record { level = level; kind = kind; rows = rows })))))) first

  pub no_kind : pick k (kind_arms w n) ≡ None → heading_from l k w n r ≡ None
  no_kind e = from_kind ∙ ap at_level e

  module _ (kind : Kind) (second : pick k (kind_arms w n) ≡ Some kind) where
    abbrev of_kind : Option ℕ → Option Heading
    of_kind o = chain o (λ rows. when (may_stand level kind) (Some (record { level = level; kind = kind; rows = rows })))

    from_rows : heading_from l k w n r ≡ of_kind (small 128 r)
    from_rows = from_kind ∙ ap at_level second

    pub no_rows : small 128 r ≡ None → heading_from l k w n r ≡ None
    no_rows e = from_rows ∙ ap of_kind e

    module _ (rows : ℕ) (third : small 128 r ≡ Some rows) where
      abbrev made : Option Heading
      made = Some (record { level = level; kind = kind; rows = rows })

      pub no_stand : may_stand level kind ≡ false → heading_from l k w n r ≡ None
      no_stand e = from_rows ∙ ap of_kind third ∙ ap (λ b. when b made) e

      pub all_read : may_stand level kind ≡ true → heading_from l k w n r ≡ made
      all_read e = from_rows ∙ ap of_kind third ∙ ap (λ b. when b made) e

-- a heading that keeps the limits is read back
pub heading_back : (h : Heading) → HeadingWithin h → heading_from (decimal h.level) (kind_word h.kind) (kind_name h.kind) (decimal (parameters h.kind)) (decimal h.rows) ≡ Some h
heading_back h t =
    let p = kind_parts h.level h.kind t.kind in
    all_read (decimal h.level) (kind_word h.kind) (kind_name h.kind) (decimal (parameters h.kind)) (decimal h.rows) h.level (read_small 3 h.level p.level_few (lit< tt)) h.kind p.picked h.rows (read_small 128 h.rows t.rows (lit< tt)) p.stands

pub heading_plain : (h : Heading) → HeadingWithin h → AllPlain (heading_five h)
heading_plain h t =
    let p = kind_parts h.level h.kind t.kind in
    record {
      pa = plain_decimal h.level (omega (arith, p.level_few));
      pb = p.word_plain;
      pc = p.name_plain;
      pd = plain_decimal (parameters h.kind) (omega (arith, p.params_few));
      pe = plain_decimal h.rows (omega (arith, t.rows));
    }

-- what is read of three columns is written so
abbrev SaysKind : Spelling → Spelling → Spelling → Kind → Type 0
SaysKind k w n q =
    (kind_word q ≡ k) × (kind_name q ≡ w) × (decimal (parameters q) ≡ n) × ((level : ℕ) → level ≤ 3 → may_stand level q ≡ true → kind_within level q ≡ true)

says : (k w n : Spelling) (q r : Kind) → r ≡ q → SaysKind k w n r → SaysKind k w n q
says k w n q r e s = subst (SaysKind k w n) e s

kind_sound : (k w n : Spelling) (q : Kind) → pick k (kind_arms w n) ≡ Some q → SaysKind k w n q
kind_sound k w n q =
    pick_some (SaysKind k w n q) k (kind_arms w n) q (
      λ p e. let t = when_some (bytes_eq n (codes "0")) (when (free_name w) (Some (variable_of w))) q e in let u = when_some (free_name w) (Some (variable_of w)) q t.1 in says k w n q (variable_of w) (some_same (variable_of w) q u.1) (sym p, refl, nought ∙ sym ((bytes_eq-Decides n (codes "0")).0 t.0), λ level few _. and_from (nat_le level 3) (free_name w) (le-leb level 3 few) u.0),
      (
        λ p e. let t = when_some (free_name w) (option_map (procedure_of w) (small 4 n)) q e in let u = mapped_some (procedure_of w) (small 4 n) q t.1 in says k w n q (procedure_of w u.0) u.2 (sym p, refl, (written_small 4 n u.0 u.1).0, λ level few _. and_from (nat_le level 3 && free_name w) (nat_le u.0 4) (and_from (nat_le level 3) (free_name w) (le-leb level 3 few) t.0) (le-leb u.0 4 (written_small 4 n u.0 u.1).1)),
        (
          λ p e. let t = when_some (bytes_eq n (codes "1")) (when (free_name w) (Some (macro_of w))) q e in let u = when_some (free_name w) (Some (macro_of w)) q t.1 in says k w n q (macro_of w) (some_same (macro_of w) q u.1) (sym p, refl, one ∙ sym ((bytes_eq-Decides n (codes "1")).0 t.0), λ level few low. and_from (nat_le level 2) (free_name w) low u.0),
          (
            λ p e. let t = when_some (bytes_eq n (codes "0")) (when (is_unused w) (Some action)) q e in let u = when_some (is_unused w) (Some action) q t.1 in says k w n q action (some_same action q u.1) (sym p, sym (unused_is w u.0), nought ∙ sym ((bytes_eq-Decides n (codes "0")).0 t.0), λ level few _. le-leb level 3 few),
            tt,
          ),
        ),
      ),
    )

-- What is read keeps the limits, and has just these columns.
pub heading_sound : (l k w n r : Spelling) (h : Heading) → heading_from l k w n r ≡ Some h → (heading_five h ≡ fields l k w n r) × HeadingWithin h
heading_sound l k w n r h e =
    let t = chain_some (small 3 l) (λ level. chain (pick k (kind_arms w n)) (λ kind. chain (small 128 r) (λ rows. when (may_stand level kind) (Some (record { level = level; kind = kind; rows = rows }))))) h e in
    let u = chain_some (pick k (kind_arms w n)) (λ kind. chain (small 128 r) (λ rows. when (may_stand t.0 kind) (Some (record { level = t.0; kind = kind; rows = rows })))) h t.2 in
    let v = chain_some (small 128 r) (λ rows. when (may_stand t.0 u.0) (Some (record { level = t.0; kind = u.0; rows = rows }))) h u.2 in
    let x = when_some (may_stand t.0 u.0) (Some (put t.0 u.0 v.0)) h v.2 in
    let is = some_same (put t.0 u.0 v.0) h x.1 in
    let level = written_small 3 l t.0 t.1 in
    let kind = kind_sound k w n u.0 u.1 in
    let rows = written_small 128 r v.0 v.1 in (
      ap heading_five (sym is) ∙ same_fields (decimal t.0) (kind_word u.0) (kind_name u.0) (decimal (parameters u.0)) (decimal v.0) l k w n r level.0 kind.0 kind.1 kind.2 rows.0,
      subst HeadingWithin is (record { kind = kind.3 t.0 level.1 x.0; rows = rows.1 }),
    )
  where
    put : ℕ → Kind → ℕ → Heading
    put level kind rows = record { level = level; kind = kind; rows = rows }
