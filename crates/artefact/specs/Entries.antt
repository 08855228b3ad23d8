-- Rows, headings and requires as entries of tables.
use Rattle.std.specs.Prelude.{◌≡◌, ℕ, ◌≤◌, Bool, true, false, List, [], ◌∷◌, ◌++◌, Some, None, decimal, Option, nat_le, refl}
use Rattle.std.proofs.Common.{sym, ap, subst, ◌∙◌, arith, lit<}
use Rattle.std.specs.Borrow.{Bor}
use Rattle.std.specs.Option.{option_map}
use Rattle.std.proofs.lemmas.List.{append_assoc, append_cancel_right}
use Rattle.std.proofs.lemmas.Str.Pattern.{IsSplitOnceResult}
use Rattle.std.proofs.lemmas.Bool.{and_parts, and_from, leb-true, le-leb}
use Rattle.rules.specs.Words.{Spelling, is_word}
use Rattle.rules.specs.Rows.{Row as PureRow, Require as PureRequire, Kind as PureKind}
use Rattle.rules.specs.Artefact.{row_line, kind_word, kind_name, parameters}
use Rattle.word.specs.declared.Word.{Word}
use Rattle.word.specs.Words.{spelling}
use Rattle.modules.specs.declared.module.Row.{Row}
use Rattle.modules.specs.declared.module.Kind.{Kind}
use Rattle.modules.specs.declared.module.Definition.{Definition}
use Rattle.modules.specs.declared.module.Require.{Require}
use Rattle.modules.specs.Says.{meant, require_of, Kinds, kind_title, kind_params}
use Rattle.modules.specs.Limits.{row_within, require_within}
use Rattle.modules.specs.Whole.{Heading, Heads, HeadingWithin}
use Rattle.artefact.specs.Lines.{Ended, row_text, FitsRow, LawfulRow, definition_text, name_text, FitsDefinition, LawfulHeading, heading_line, require_line, require_text, FitsRequire, LawfulRequire}
use Rattle.artefact.specs.Fields.{when, small, row_from, heading_from, require_from}
use Rattle.artefact.specs.Picks.{some_same, none_some, when_true}
use Rattle.artefact.specs.Numbers.{read_small, written_small}
use Rattle.artefact.specs.Cuts.{cut_is, cut_found, cut_none}
use Rattle.artefact.specs.LinesLemmas.{lacks_append, lacks_cons, no_space, no_feed, low, low_append, graphic_low, plain_word, plain_decimal, cut_once}
use Rattle.artefact.specs.Rows.{row_five, row_line_is, row_back, row_plain, row_sound}
use Rattle.artefact.specs.Heads.{heading_five, heading_back, heading_plain, heading_sound}
use Rattle.artefact.specs.Columns.{Columns, entry_ended}

pub row_columns : Columns (λ q. row_within q ≡ true) row_line row_from
row_columns = record {
  five_of = row_five;
  is = row_line_is;
  plain = row_plain;
  back = row_back;
  sound = λ f q e. let s = row_sound f.a f.b f.c f.d f.e q e in (s.same, s.within);
}

pub heading_columns : Columns HeadingWithin heading_line heading_from
heading_columns = record {
  five_of = heading_five;
  is = λ h. refl;
  plain = heading_plain;
  back = heading_back;
  sound = λ f h e. heading_sound f.a f.b f.c f.d f.e h e;
}

pub row_ended : (l : List ℕ) → LawfulRow l → Ended l
row_ended l w = subst Ended (sym w.2) (entry_ended row_columns w.0 w.1)

pub heading_ended : (l : List ℕ) → LawfulHeading l → Ended l
heading_ended l w = subst Ended (sym w.2) (entry_ended heading_columns w.0 w.1)

pub row_tie : (x : Row) (q : PureRow) → meant x ≡ q → row_within q ≡ true → (row_text x ≡ row_line q) × FitsRow x
row_tie x q e w = (ap row_line e, ap row_within e ∙ w)

-- a kind's words, as the code has them
kind_tie : (k : Kind) (n : Option Word) (q : PureKind) → Kinds k n q → (kind_title k ≡ kind_word q) × (name_text n ≡ kind_name q) × (kind_params k ≡ parameters q)
kind_tie Kind.Variable (Some w) q e = (ap kind_word (sym e), ap kind_name (sym e), ap parameters (sym e))
kind_tie (Kind.Procedure n) (Some w) q e = (ap kind_word (sym e), ap kind_name (sym e), ap parameters (sym e))
kind_tie (Kind.Macro n) (Some w) q e = (ap kind_word (sym e.0), ap kind_name (sym e.0), e.1 ∙ ap parameters (sym e.0))
kind_tie Kind.Action (Some w) q e = absurd e
kind_tie Kind.Variable None q e = absurd e
kind_tie (Kind.Procedure n) None q e = absurd e
kind_tie (Kind.Macro n) None q e = absurd e
kind_tie Kind.Action None q e = (ap kind_word (sym e), ap kind_name (sym e), ap parameters (sym e))

pub heading_text : (d : Definition) (h : Heading) → Heads d h → definition_text d ≡ heading_line h
heading_text d h t =
    let k = kind_tie d.kind d.name h.kind t.kind in
    let l = t.level in
    let r = t.rows in
    let w = k.0 in
    let n = k.1 in
    let p = k.2 in
    cc

pub heading_tie : (d : Definition) (h : Heading) → Heads d h → HeadingWithin h → (definition_text d ≡ heading_line h) × FitsDefinition d
heading_tie d h t w = (heading_text d h t, (h, t, w))

-- requires, whose lines have two columns
pub require_parts : (q : PureRequire) → require_within q ≡ true → (is_word q.from ≡ true) × (q.shift ≤ 1)
require_parts q t = let u = and_parts (is_word q.from) (nat_le q.shift 1) t in (u.0, leb-true q.shift 1 u.1)

abbrev pub require_body : PureRequire → List ℕ
require_body q = q.from ++ (32 ∷ decimal q.shift)

require_line_is : (q : PureRequire) → require_line q ≡ require_body q ++ (10 ∷ [])
require_line_is q = sym (append_assoc q.from (32 ∷ decimal q.shift) (10 ∷ []))

pub require_line_ended : (q : PureRequire) → require_within q ≡ true → Ended (require_line q)
require_line_ended q t =
    let u = require_parts q t in (
      require_body q,
      require_line_is q,
      lacks_append 10 q.from (32 ∷ decimal q.shift) (no_feed q.from (plain_word q.from u.0)) (lacks_cons 10 32 (decimal q.shift) (λ e. omega (arith, e)) (no_feed (decimal q.shift) (plain_decimal q.shift (omega (arith, u.1))))),
    )

pub require_low : (q : PureRequire) → require_within q ≡ true → low (require_line q) ≡ true
require_low q t =
    let u = require_parts q t in
    low_append q.from _ (graphic_low q.from (plain_word q.from u.0)) (low_append (decimal q.shift) (10 ∷ []) (graphic_low (decimal q.shift) (plain_decimal q.shift (omega (arith, u.1)))) refl)

pub require_ended : (l : List ℕ) → LawfulRequire l → Ended l
require_ended l w = subst Ended (sym w.2) (require_line_ended w.0 w.1)

require_back : (q : PureRequire) → require_within q ≡ true → require_from q.from (decimal q.shift) ≡ Some q
require_back q t =
    let u = require_parts q t in
    when_true (is_word q.from) _ u.0 ∙ ap (option_map (λ n. record { from = q.from; shift = n })) (read_small 1 q.shift u.1 (lit< tt))

pub require_no_word : (w s : Spelling) → is_word w ≡ false → require_from w s ≡ None
require_no_word w s e = ap (λ b. when b (option_map (λ n. record { from = w; shift = n }) (small 1 s))) e

pub require_no_shift : (w s : Spelling) → small 1 s ≡ None → require_from w s ≡ None
require_no_shift w s e = ap (λ o. when (is_word w) (option_map (λ n. record { from = w; shift = n }) o)) e ∙ none (is_word w)
  where
    none : (b : Bool) → when {X = PureRequire} b None ≡ None
    none true = refl
    none false = refl

pub require_told : (q r : PureRequire) → require_within q ≡ true → require_within r ≡ true → require_line q ≡ require_line r → q ≡ r
require_told q r v w e =
    let t = require_parts q v in
    let u = require_parts r w in
    let bodies = append_cancel_right (require_body q) (require_body r) (10 ∷ []) (sym (require_line_is q) ∙ e ∙ require_line_is r) in
    let parts = cut_once 32 q.from r.from (decimal q.shift) (decimal r.shift) (no_space q.from (plain_word q.from t.0)) (no_space r.from (plain_word r.from u.0)) bodies in
    some_same q r (sym (require_back q v) ∙ ap (λ x. require_from x (decimal q.shift)) parts.0 ∙ ap (require_from r.from) parts.1 ∙ require_back r w)

-- the body of a require's line, cut at its space
module _ (text : List ℕ) where
  abbrev Lawless : Type 0
  Lawless = LawfulRequire (text ++ (10 ∷ [])) → ⊥

  require_text_is : (q : PureRequire) → text ++ (10 ∷ []) ≡ require_line q → text ≡ require_body q
  require_text_is q e = append_cancel_right text (require_body q) (10 ∷ []) (e ∙ require_line_is q)

  pub require_uncut : IsSplitOnceResult 32 text None → Lawless
  require_uncut h l = cut_none 32 (lit< tt) text l.0.from (decimal l.0.shift) h (no_space l.0.from (plain_word l.0.from (require_parts l.0 l.1).0)) (require_text_is l.0 l.2)

  module _ (f r : Bor (List ℕ)) (h : IsSplitOnceResult 32 text (Some (f, r))) where
    require_cut : (q : PureRequire) → require_within q ≡ true → text ++ (10 ∷ []) ≡ require_line q → (f.now ≡ q.from) × (r.now ≡ decimal q.shift)
    require_cut q t e = cut_found 32 (lit< tt) text f r q.from (decimal q.shift) h (no_space q.from (plain_word q.from (require_parts q t).0)) (require_text_is q e)

    pub require_unread : require_from f.now r.now ≡ None → Lawless
    require_unread n l =
        let c = require_cut l.0 l.1 l.2 in
        none_some l.0 (sym n ∙ ap (λ x. require_from x r.now) c.0 ∙ ap (require_from l.0.from) c.1 ∙ require_back l.0 l.1)

    pub require_read : (x : Require) → is_word f.now ≡ true → spelling x.from ≡ f.now → small 1 r.now ≡ Some x.shift → (require_text x ≡ text ++ (10 ∷ [])) × FitsRequire x
    require_read x w s n =
        let u = written_small 1 r.now x.shift n in (
          require_line_is (require_of x) ∙ ap (λ k. (k ++ (32 ∷ decimal x.shift)) ++ (10 ∷ [])) s ∙ ap (λ k. (f.now ++ (32 ∷ k)) ++ (10 ∷ [])) u.0 ∙ ap (λ k. k ++ (10 ∷ [])) (sym (cut_is 32 (lit< tt) text f r h)),
          and_from (is_word (spelling x.from)) (nat_le x.shift 1) (ap is_word s ∙ w) (le-leb x.shift 1 u.1),
        )
