-- Whole artefacts: their tables, what tells them apart, and how long they are.
use Rattle.std.proofs.Common.{◌≡◌, ℕ, zero, suc, ◌+◌, ◌≤◌, Bool, true, false, not, ◌&&◌, eqb, List, [], ◌∷◌, ◌++◌, map, length, vec_items, codes, IsUtf8, decimal, sym, refl, ap, ◌∙◌, subst, arith}
use Rattle.std.specs.List.{flat_map, AllByRecursion, list_all}
use Rattle.std.proofs.lemmas.Fmt.{decimal_digit}
use Rattle.std.proofs.ByRecursion.{All-map, All-weaker}
use Rattle.std.proofs.lemmas.Str.{IsUtf8-from_ascii}
use Rattle.std.proofs.lemmas.List.{append-nil, append_assoc, append_cancel_left, length-append}
use Rattle.std.proofs.lemmas.Bool.{false≢true, and_parts, not-true, eqb-false}
use Rattle.rules.specs.Rows.{Row as PureRow, Require as PureRequire, Definition as PureDefinition, Module as PureModule, flat}
use Rattle.rules.specs.Artefact.{line, row_line, row_lines, require_lines, definition_line, definition_lines, rows_of, require_header, definition_header, row_header, artefact}
use Rattle.modules.specs.declared.module.Row.{Row}
use Rattle.modules.specs.declared.module.Definition.{Definition}
use Rattle.modules.specs.declared.module.Require.{Require}
use Rattle.modules.specs.declared.module.Module.{Module}
use Rattle.modules.specs.Says.{meant, require_of, Says, EachDefines}
use Rattle.modules.specs.Limits.{row_within, require_within, definition_within, WithinLimits}
use Rattle.modules.specs.Whole.{Heading, HeadingWithin, EachHeads, heading, PartsWithin, whole}
use Rattle.modules.proofs.Forests.{length-flat}
use Rattle.modules.proofs.Sayings.{each_from, rows_from, lies, whole_says, says_whole, same_definitions}
use Rattle.artefact.specs.Lines.{Lacks, Ended, written, row_text, require_text, definition_text, require_line, heading_line, FitsRequire, FitsDefinition, FitsRow, LawfulRequire, LawfulHeading, LawfulRow}
use Rattle.std.specs.Prelude.{Ok, Err}
use Rattle.artefact.specs.declared.reader.ReadFault.{ReadFault}
use Rattle.artefact.specs.declared.reader.ReadFault.TheVariants.{NotAnArtefact, Memory}
use Rattle.artefact.specs.Tables.{Refuses, Appended, Stops, Tabled, PartsFit, Tables, Read, Wrote}
use Rattle.artefact.specs.LinesLemmas.{low, low_append, low_ascii, line_once, cut_once, no_space, plain_word, plain_decimal}
use Rattle.artefact.specs.Heads.{kind_parts}
use Rattle.artefact.specs.Columns.{entry_low, entry_ended, entry_told}
use Rattle.artefact.specs.Entries.{row_columns, heading_columns, heading_text, row_ended, heading_ended, require_ended, require_line_ended, require_told, require_low, require_parts}
use Rattle.artefact.proofs.Tables.{read_once}

-- the lines of the rules, as joined lines
rows_joined : (qs : List PureRow) → row_lines qs ≡ flat_map row_line qs
rows_joined [] = refl
rows_joined (q ∷ qs) = ap (λ k. row_line q ++ k) (rows_joined qs)

requires_joined : (qs : List PureRequire) → require_lines qs ≡ flat_map require_line qs
requires_joined [] = refl
requires_joined (q ∷ qs) = ap (λ k. require_line q ++ k) (requires_joined qs)

headings_joined : (es : List PureDefinition) → definition_lines es ≡ flat_map heading_line (map heading es)
headings_joined [] = refl
headings_joined (e ∷ es) = ap (λ k. definition_line e ++ k) (headings_joined es)

-- three tables, each under its header
abbrev pub tables : List ℕ → List ℕ → List ℕ → List ℕ
tables a b c = require_header ++ (a ++ (definition_header ++ (b ++ (row_header ++ c))))

tables_append : (a b c d : List ℕ) → tables a b c ++ d ≡ tables a b (c ++ d)
tables_append a b c d = simp append_assoc

abbrev ruled : List PureRequire → List Heading → List PureRow → List ℕ
ruled rs hs qs = tables (flat_map require_line rs) (flat_map heading_line hs) (flat_map row_line qs)

pub artefact_is : (p : PureModule) → artefact p ≡ ruled p.requires (map heading p.definitions) (rows_of p.definitions)
artefact_is p =
    ap (λ k. tables k (definition_lines p.definitions) (row_lines (rows_of p.definitions))) (requires_joined p.requires) ∙ ap (λ k. tables (flat_map require_line p.requires) k (row_lines (rows_of p.definitions))) (headings_joined p.definitions) ∙ ap (tables (flat_map require_line p.requires) (flat_map heading_line (map heading p.definitions))) (rows_joined (rows_of p.definitions))

joined_map : {X Q : Type 0} (f : Q → List ℕ) (g : X → Q) (xs : List X) → flat_map (λ x. f (g x)) xs ≡ flat_map f (map g xs)
joined_map f g [] = refl
joined_map f g (x ∷ xs) = ap (λ k. f (g x) ++ k) (joined_map f g xs)

headed_joined : (ds : List Definition) (hs : List Heading) → EachHeads ds hs → flat_map definition_text ds ≡ flat_map heading_line hs
headed_joined [] [] m = refl
headed_joined [] (h ∷ hs) m = absurd m
headed_joined (d ∷ ds) [] m = absurd m
headed_joined (d ∷ ds) (h ∷ hs) m = ap (λ k. k ++ flat_map definition_text ds) (heading_text d h m.0) ∙ ap (λ k. heading_line h ++ k) (headed_joined ds hs m.1)

-- what is written of a module, by its headings
written_is : (m : Module) (hs : List Heading) → EachHeads (vec_items m.definitions) hs → written m ≡ ruled (map require_of (vec_items m.required)) hs (map meant (vec_items m.rows))
written_is m hs e =
    ap (λ k. tables k (flat_map definition_text (vec_items m.definitions)) (flat_map row_text (vec_items m.rows))) (joined_map require_line require_of (vec_items m.required)) ∙ ap (λ k. tables (flat_map require_line (map require_of (vec_items m.required))) k (flat_map row_text (vec_items m.rows))) (headed_joined (vec_items m.definitions) hs e) ∙ ap (tables (flat_map require_line (map require_of (vec_items m.required))) (flat_map heading_line hs)) (joined_map row_line meant (vec_items m.rows))

headed : (ds : List Definition) (es : List PureDefinition) → EachDefines ds es → EachHeads ds (map heading es)
headed [] [] m = tt
headed [] (e ∷ es) m = absurd m
headed (d ∷ ds) [] m = absurd m
headed (d ∷ ds) (e ∷ es) m = (record { level = m.0.level; kind = m.0.kind; rows = m.0.rows }, headed ds es m.1)

-- a module is written as the rules have it
pub written_ruled : (m : Module) (p : PureModule) → Says m p → written m ≡ artefact p
written_ruled m p says =
    let ds = vec_items m.definitions in
    let rows = map meant (vec_items m.rows) in
    written_is m (map heading p.definitions) (headed ds p.definitions (each_from ds rows p.definitions says.definitions)) ∙ ap (λ k. ruled k (map heading p.definitions) rows) says.requires ∙ ap (ruled p.requires (map heading p.definitions)) (rows_from ds rows p.definitions says.definitions) ∙ sym (artefact_is p)

pub appended : (m : Module) (before after : List ℕ) → after ≡ before ++ written m → Appended m before after
appended m before after e = record { as_is = e; as_ruled = λ p says. e ∙ ap (λ k. before ++ k) (written_ruled m p says) }

pub wrote : (m : Module) (before after : List ℕ) → before ≡ [] → Appended m before after → Wrote m after
wrote m before after e a = record { as_is = a.as_is ∙ ap (λ k. k ++ written m) e; as_ruled = λ p says. a.as_ruled p says ∙ ap (λ k. k ++ artefact p) e }

-- the parts of a module of the rules keep their limits
pub all_every : {X : Type 0} (f : X → Bool) (xs : List X) → list_all f xs ≡ true → AllByRecursion (λ x. f x ≡ true) xs
all_every f [] t = tt
all_every f (x ∷ xs) t = let u = and_parts (f x) (list_all f xs) t in (u.0, all_every f xs u.1)

every_all : {X : Type 0} (f : X → Bool) (xs : List X) → AllByRecursion (λ x. f x ≡ true) xs → list_all f xs ≡ true
every_all f [] a = refl
every_all f (x ∷ xs) a = ap (λ b. b && list_all f xs) a.0 ∙ every_all f xs a.1

pub headings_within : (es : List PureDefinition) → list_all definition_within es ≡ true → length (rows_of es) ≤ 128 → AllByRecursion HeadingWithin (map heading es)
headings_within [] t l = tt
headings_within (e ∷ es) t l =
    let u = and_parts (definition_within e) (list_all definition_within es) t in
    let n = length-append (flat e.body) (rows_of es) in
    let k = length-flat e.body in
    (record { kind = u.0; rows = omega arith }, headings_within es u.1 (omega arith))

-- a byte that is not in a text
abbrev absent : ℕ → List ℕ → Bool
absent b [] = true
absent b (x ∷ xs) = not (eqb x b) && absent b xs

pub absent_lacks : (b : ℕ) (xs : List ℕ) → absent b xs ≡ true → Lacks b xs
absent_lacks b [] h i l e = omega arith
absent_lacks b (x ∷ xs) h zero l e = eqb-false x b (not-true (eqb x b) (and_parts (not (eqb x b)) (absent b xs) h).0) e
absent_lacks b (x ∷ xs) h (suc i) l e = absent_lacks b xs (and_parts (not (eqb x b)) (absent b xs) h).1 i (omega arith) e

heads_same : (x y : ℕ) (xs ys : List ℕ) → x ∷ xs ≡ y ∷ ys → x ≡ y
heads_same x y xs ys e = cc

-- no require's line is the header of the definitions, and no heading's line that of the rows
pub definitions_stop : (z : List ℕ) → Stops LawfulRequire (definition_header ++ z)
definitions_stop z l rest w e =
    let q = w.0 in
    let few = require_parts q w.1 in
    let same = (line_once definition_header l z rest title (require_ended l w) e).0 ∙ w.2 in
    let parts = cut_once 32 (codes "level") q.from (codes "kind name params rows\n") (decimal q.shift ++ (10 ∷ [])) (absent_lacks 32 (codes "level") refl) (no_space q.from (plain_word q.from few.0)) same in
    let digit = heads_same 107 (48 + q.shift) _ _ (parts.1 ∙ ap (λ k. k ++ (10 ∷ [])) (decimal_digit q.shift (omega (arith, few.1)))) in
    omega (arith, few.1, digit)
  where
    title : Ended definition_header
    title = (codes "level kind name params rows", refl, absent_lacks 10 (codes "level kind name params rows") refl)

pub rows_stop : (z : List ℕ) → Stops LawfulHeading (row_header ++ z)
rows_stop z l rest w e =
    let h = w.0 in
    let few = (kind_parts h.level h.kind w.1.kind).level_few in
    let same = (line_once row_header l z rest title (heading_ended l w) e).0 ∙ w.2 in
    let parts = cut_once 32 (codes "op") (decimal h.level) (codes "text home base number\n") _ (absent_lacks 32 (codes "op") refl) (no_space (decimal h.level) (plain_decimal h.level (omega (arith, few)))) same in
    let digit = heads_same 111 (48 + h.level) _ _ (parts.0 ∙ decimal_digit h.level (omega (arith, few))) in
    omega (arith, few, digit)
  where
    title : Ended row_header
    title = (codes "op text home base number", refl, absent_lacks 10 (codes "op text home base number") refl)

pub end_stop : Stops LawfulRow []
end_stop l rest w e =
    let n : ◌≡◌ {A = ℕ} 0 (length (row_ended l w).0 + 1 + length rest) = ap length e ∙ length-append l rest ∙ ap (λ k. length k + length rest) (row_ended l w).1 ∙ ap (λ k. k + length rest) (length-append (row_ended l w).0 (10 ∷ [])) in
    omega (arith, n)

-- the tables of one text are one module's
pub once_1 : (rs ss : List PureRequire) (x y : List ℕ) → AllByRecursion (λ q. require_within q ≡ true) rs → AllByRecursion (λ q. require_within q ≡ true) ss → Stops LawfulRequire x → Stops LawfulRequire y → flat_map require_line rs ++ x ≡ flat_map require_line ss ++ y → (rs ≡ ss) × (x ≡ y)
once_1 = read_once (λ q. require_within q ≡ true) require_line require_line_ended require_told

pub once_2 : (hs gs : List Heading) (x y : List ℕ) → AllByRecursion HeadingWithin hs → AllByRecursion HeadingWithin gs → Stops LawfulHeading x → Stops LawfulHeading y → flat_map heading_line hs ++ x ≡ flat_map heading_line gs ++ y → (hs ≡ gs) × (x ≡ y)
once_2 = read_once HeadingWithin heading_line (entry_ended heading_columns) (entry_told heading_columns)

pub once_3 : (qs ps : List PureRow) (x y : List ℕ) → AllByRecursion (λ q. row_within q ≡ true) qs → AllByRecursion (λ q. row_within q ≡ true) ps → Stops LawfulRow x → Stops LawfulRow y → flat_map row_line qs ++ x ≡ flat_map row_line ps ++ y → (qs ≡ ps) × (x ≡ y)
once_3 = read_once (λ q. row_within q ≡ true) row_line (entry_ended row_columns) (entry_told row_columns)

-- the parts that the code has read, as those of the rules
heads_of : (ds : List Definition) → AllByRecursion FitsDefinition ds → (hs : List Heading) × EachHeads ds hs × AllByRecursion HeadingWithin hs
heads_of [] a = ([], tt, tt)
heads_of (d ∷ ds) a = let rest = heads_of ds a.1 in (a.0.0 ∷ rest.0, (a.0.1, rest.1), (a.0.2, rest.2))

requires_fit : (xs : List Require) → AllByRecursion FitsRequire xs → AllByRecursion (λ q. require_within q ≡ true) (map require_of xs)
requires_fit xs a = All-map (λ q. require_within q ≡ true) require_of xs a

rows_fit : (xs : List Row) → AllByRecursion FitsRow xs → AllByRecursion (λ q. row_within q ≡ true) (map meant xs)
rows_fit xs a = All-map (λ q. row_within q ≡ true) meant xs a

pub parts_within : (m : Module) → PartsFit m → PartsWithin m
parts_within m f = record {
  requires = every_all require_within (map require_of (vec_items m.required)) (requires_fit (vec_items m.required) f.requires);
  definitions = heads_of (vec_items m.definitions) f.definitions;
  rows = every_all row_within (map meant (vec_items m.rows)) (rows_fit (vec_items m.rows) f.rows);
}

-- a module within the limits whose bytes these are
module _ (bytes : List ℕ) (p : PureModule) (limits : WithinLimits p) (is : artefact p ≡ bytes) where
  abbrev hs : List Heading
  hs = map heading p.definitions

  abbrev qs : List PureRow
  qs = rows_of p.definitions

  abbrev after_rows : List ℕ
  after_rows = flat_map row_line qs

  abbrev after_headings : List ℕ
  after_headings = flat_map heading_line hs ++ (row_header ++ after_rows)

  abbrev after_requires : List ℕ
  after_requires = flat_map require_line p.requires ++ (definition_header ++ after_headings)

  ruled_is : bytes ≡ require_header ++ after_requires
  ruled_is = sym is ∙ artefact_is p

  pub no_requires : ((rest : List ℕ) → bytes ≡ codes "require shift" ++ (10 ∷ rest) → ⊥) → ⊥
  no_requires f = f after_requires ruled_is

  module _ (rest-1 after-1 : List ℕ) (xs : List Require) (b_1 : bytes ≡ codes "require shift" ++ (10 ∷ rest-1)) (t-1 : Tabled require_text FitsRequire LawfulRequire rest-1 after-1 xs) where
    step_1 : (map require_of xs ≡ p.requires) × (after-1 ≡ definition_header ++ after_headings)
    step_1 =
        let same : rest-1 ≡ after_requires = append_cancel_left require_header rest-1 after_requires (sym b_1 ∙ ruled_is) in
        once_1 (map require_of xs) p.requires after-1 (definition_header ++ after_headings) (requires_fit xs t-1.fit) (all_every require_within p.requires limits.requires) t-1.stops (definitions_stop after_headings) (ap (λ k. k ++ after-1) (sym (joined_map require_line require_of xs)) ∙ sym t-1.lines ∙ same)

    pub no_definitions : ((rest : List ℕ) → after-1 ≡ codes "level kind name params rows" ++ (10 ∷ rest) → ⊥) → ⊥
    no_definitions f = f after_headings step_1.1

    module _ (rest-2 after-2 : List ℕ) (ds : List Definition) (b_2 : after-1 ≡ codes "level kind name params rows" ++ (10 ∷ rest-2)) (t-2 : Tabled definition_text FitsDefinition LawfulHeading rest-2 after-2 ds) where
      step_2 : EachHeads ds hs × (after-2 ≡ row_header ++ after_rows)
      step_2 =
          let same : rest-2 ≡ after_headings = append_cancel_left definition_header rest-2 after_headings (sym b_2 ∙ step_1.1) in
          let heads = heads_of ds t-2.fit in
          let t = once_2 heads.0 hs after-2 (row_header ++ after_rows) heads.2 (headings_within p.definitions limits.definitions limits.few_rows) t-2.stops (rows_stop after_rows) (ap (λ k. k ++ after-2) (sym (headed_joined ds heads.0 heads.1)) ∙ sym t-2.lines ∙ same) in
          (subst (EachHeads ds) t.0 heads.1, t.1)

      pub no_rows : ((rest : List ℕ) → after-2 ≡ codes "op text home base number" ++ (10 ∷ rest) → ⊥) → ⊥
      no_rows f = f after_rows step_2.1

-- what refuses one thing refuses what follows from it
pub refuses_more : {P Q : Type 0} → (P → Q) → (f : ReadFault) → Refuses P f → Refuses Q f
refuses_more g NotAnArtefact p = g p
refuses_more g Memory p = tt

-- three tables in front of a text
pub all_tables : (bytes rest-1 after-1 rest-2 after-2 rest-3 after-3 : List ℕ) (m : Module) → bytes ≡ codes "require shift" ++ (10 ∷ rest-1) → Tabled require_text FitsRequire LawfulRequire rest-1 after-1 (vec_items m.required) → after-1 ≡ codes "level kind name params rows" ++ (10 ∷ rest-2) → Tabled definition_text FitsDefinition LawfulHeading rest-2 after-2 (vec_items m.definitions) → after-2 ≡ codes "op text home base number" ++ (10 ∷ rest-3) → Tabled row_text FitsRow LawfulRow rest-3 after-3 (vec_items m.rows) → Tables bytes after-3 (Ok m)
all_tables bytes rest-1 after-1 rest-2 after-2 rest-3 after-3 m b_1 t-1 b_2 t-2 b_3 t-3 = (
  b_1 ∙ ap (λ k. require_header ++ k) (t-1.lines ∙ ap (λ k. flat_map require_text (vec_items m.required) ++ k) (b_2 ∙ ap (λ k. definition_header ++ k) (t-2.lines ∙ ap (λ k. flat_map definition_text (vec_items m.definitions) ++ k) (b_3 ∙ ap (λ k. row_header ++ k) t-3.lines)))) ∙ joined_up,
  record { requires = t-1.fit; definitions = t-2.fit; rows = t-3.fit },
  t-3.stops,
)
  where
    joined_up : tables (flat_map require_text (vec_items m.required)) (flat_map definition_text (vec_items m.definitions)) (flat_map row_text (vec_items m.rows) ++ after-3) ≡ written m ++ after-3
    joined_up = sym (tables_append (flat_map require_text (vec_items m.required)) (flat_map definition_text (vec_items m.definitions)) (flat_map row_text (vec_items m.rows)) after-3)

-- what has been read is all that the bytes can say
pub says_all : (bytes after : List ℕ) (m : Module) (p : PureModule) → WithinLimits p → artefact p ≡ bytes → Tables bytes after (Ok m) → Says m p × (after ≡ [])
says_all bytes after m p limits is t =
    let rs = vec_items m.required in
    let ds = vec_items m.definitions in
    let xs = vec_items m.rows in
    let heads = heads_of ds t.1.definitions in
    let left : tables (flat_map require_line (map require_of rs)) (flat_map heading_line heads.0) (flat_map row_line (map meant xs) ++ after) ≡ ruled p.requires (map heading p.definitions) (rows_of p.definitions) = sym (tables_append _ _ (flat_map row_line (map meant xs)) after) ∙ ap (λ k. k ++ after) (sym (written_is m heads.0 heads.1)) ∙ sym t.0 ∙ sym is ∙ artefact_is p in
    let one = once_1 (map require_of rs) p.requires _ _ (requires_fit rs t.1.requires) (all_every require_within p.requires limits.requires) (definitions_stop _) (definitions_stop _) (append_cancel_left require_header _ _ left) in
    let two = once_2 heads.0 (map heading p.definitions) _ _ heads.2 (headings_within p.definitions limits.definitions limits.few_rows) (rows_stop _) (rows_stop _) (append_cancel_left definition_header _ _ one.1) in
    let three = once_3 (map meant xs) (rows_of p.definitions) after [] (rows_fit xs t.1.rows) (all_every row_within (rows_of p.definitions) limits.rows) t.2 end_stop (append_cancel_left row_header _ _ two.1 ∙ sym (append-nil (flat_map row_line (rows_of p.definitions)))) in (
      record { requires = one.0; definitions = lies ds (map meant xs) p.definitions (subst (EachHeads ds) two.0 heads.1) three.0 },
      three.1,
    )

-- bytes that were read to their end, by a module that is whole or not
pub read_whole : (bytes : List ℕ) (m : Module) → Tables bytes [] (Ok m) → whole m ≡ true → Read bytes (Ok m)
read_whole bytes m t w =
    let p = whole_says m (parts_within m t.1) w in
    (p.0, p.1, p.2, sym (written_ruled m p.0 p.1) ∙ sym (append-nil (written m)) ∙ sym t.0)

pub read_broken : (bytes after : List ℕ) (m : Module) → Tables bytes after (Ok m) → whole m ≡ false → Read bytes (Err NotAnArtefact)
read_broken bytes after m t w p limits is = false≢true (sym w ∙ says_whole m p (says_all bytes after m p limits is t).0 limits)

pub read_more : (bytes after : List ℕ) (m : Module) → Tables bytes after (Ok m) → (after ≡ [] → ⊥) → Read bytes (Err NotAnArtefact)
read_more bytes after m t n p limits is = n (says_all bytes after m p limits is t).1

-- an artefact is text
joined_low : {Q : Type 0} (line : Q → List ℕ) (qs : List Q) → AllByRecursion (λ q. low (line q) ≡ true) qs → low (flat_map line qs) ≡ true
joined_low line [] a = refl
joined_low line (q ∷ qs) a = low_append (line q) (flat_map line qs) a.0 (joined_low line qs a.1)

tables_low : (a b c : List ℕ) → low a ≡ true → low b ≡ true → low c ≡ true → low (tables a b c) ≡ true
tables_low a b c p q r =
    let last = low_append row_header c refl r in
    let second = low_append definition_header (b ++ (row_header ++ c)) refl (low_append b (row_header ++ c) q last) in
    low_append require_header (a ++ (definition_header ++ (b ++ (row_header ++ c)))) refl (low_append a (definition_header ++ (b ++ (row_header ++ c))) p second)

pub artefact_text : (p : PureModule) → WithinLimits p → IsUtf8 (artefact p)
artefact_text p limits =
    let requires = joined_low require_line p.requires (All-weaker (λ q. require_within q ≡ true) (λ q. low (require_line q) ≡ true) require_low p.requires (all_every require_within p.requires limits.requires)) in
    let headings = joined_low heading_line (map heading p.definitions) (All-weaker HeadingWithin (λ h. low (heading_line h) ≡ true) (entry_low heading_columns) (map heading p.definitions) (headings_within p.definitions limits.definitions limits.few_rows)) in
    let rows = joined_low row_line (rows_of p.definitions) (All-weaker (λ q. row_within q ≡ true) (λ q. low (row_line q) ≡ true) (entry_low row_columns) (rows_of p.definitions) (all_every row_within (rows_of p.definitions) limits.rows)) in
    IsUtf8-from_ascii (artefact p) (low_ascii (artefact p) (ap low (artefact_is p) ∙ tables_low (flat_map require_line p.requires) (flat_map heading_line (map heading p.definitions)) (flat_map row_line (rows_of p.definitions)) requires headings rows))

-- no two modules share their bytes
pub artefacts_tell : (p q : PureModule) → WithinLimits p → WithinLimits q → artefact p ≡ artefact q → p ≡ q
artefacts_tell p q v w e =
    let same = sym (artefact_is p) ∙ e ∙ artefact_is q in
    let one = once_1 p.requires q.requires _ _ (all_every require_within p.requires v.requires) (all_every require_within q.requires w.requires) (definitions_stop _) (definitions_stop _) (append_cancel_left require_header _ _ same) in
    let two = once_2 (map heading p.definitions) (map heading q.definitions) _ _ (headings_within p.definitions v.definitions v.few_rows) (headings_within q.definitions w.definitions w.few_rows) (rows_stop _) (rows_stop _) (append_cancel_left definition_header _ _ one.1) in
    let three = once_3 (rows_of p.definitions) (rows_of q.definitions) [] [] (all_every row_within (rows_of p.definitions) v.rows) (all_every row_within (rows_of q.definitions) w.rows) end_stop end_stop (append-nil _ ∙ append_cancel_left row_header _ _ two.1 ∙ sym (append-nil _)) in
    let definitions = same_definitions p.definitions q.definitions two.0 three.0 in
    λ i. record { requires = one.0 i; definitions = definitions i }
