-- When a module of the code says one of the rules, and which.
use Rattle.std.proofs.Common.{◌≡◌, ℕ, suc, ◌≤◌, Bool, true, not, ◌&&◌, eqb, leb, List, [], ◌∷◌, ◌++◌, map, length, take, drop, Some, None, vec_items, Option, sym, refl, ap, ◌∙◌, arith}
use Rattle.std.specs.Option.{option_map}
use Rattle.std.proofs.lemmas.List.Folds.{list_all-map}
use Rattle.std.specs.List.{AllByRecursion, list_all}
use Rattle.std.proofs.lemmas.List.{append-nil, append_cancel_left, length-map, length-take-le, length-append, take-append-drop, take_at, drop_at, nil_from_length}
use Rattle.std.proofs.lemmas.Bool.{and_parts, and_from, leb-true, le-leb, eqb-true}
use Rattle.rules.specs.Rows.{Expr, size, flat}
use Rattle.rules.specs.Rows.{Row as PureRow, Kind as PureKind, Definition as PureDefinition, Module as PureModule}
use Rattle.rules.specs.Artefact.{rows_of}
use Rattle.rules.specs.Lookup.{title}
use Rattle.word.specs.declared.Word.{Word}
use Rattle.word.specs.Words.{spelling}
use Rattle.modules.specs.declared.module.Kind.{Kind}
use Rattle.modules.specs.declared.module.Definition.{Definition}
use Rattle.modules.specs.declared.module.Module.{Module}
use Rattle.modules.specs.Says.{meant, require_of, Kinds, Defines, EachDefines, Definitions, Says}
use Rattle.modules.specs.Limits.{none_alike, same_require, same_definition, definition_within, row_within, WithinLimits}
use Rattle.modules.specs.Trees.{closes}
use Rattle.modules.specs.Whole.{Heading, heading, EachHeads, HeadingWithin, PartsWithin, alike_require, alike_definition, trees, few, distinct, whole}
use Rattle.modules.proofs.Forests.{closes_flat, tree_of, tree_rows, length-flat, forest, forest_flat, first_of}

-- a module's definitions, and their rows apart
pub each_from : (ds : List Definition) (rows : List PureRow) (es : List PureDefinition) → Definitions ds rows es → EachDefines ds es
each_from [] rows [] d = tt
each_from [] rows (e ∷ es) d = d
each_from (x ∷ ds) rows [] d = d
each_from (x ∷ ds) rows (e ∷ es) d = (d.2, each_from ds d.0 es d.3)

pub rows_from : (ds : List Definition) (rows : List PureRow) (es : List PureDefinition) → Definitions ds rows es → rows ≡ rows_of es
rows_from [] rows [] d = d
rows_from [] rows (e ∷ es) d = absurd d
rows_from (x ∷ ds) rows [] d = absurd d
rows_from (x ∷ ds) rows (e ∷ es) d = d.1 ∙ ap (λ k. flat e.body ++ k) (rows_from ds d.0 es d.3)

pub same_count : (ds : List Definition) (es : List PureDefinition) → EachDefines ds es → length ds ≡ length es
same_count [] [] m = refl
same_count [] (e ∷ es) m = absurd m
same_count (d ∷ ds) [] m = absurd m
same_count (d ∷ ds) (e ∷ es) m = ap suc (same_count ds es m.1)

-- a name is the title of its kind
titled : (k : Kind) (n : Option Word) (q : PureKind) → Kinds k n q → option_map spelling n ≡ title q
titled Kind.Variable (Some w) q e = ap title (sym e)
titled (Kind.Procedure n) (Some w) q e = ap title (sym e)
titled (Kind.Macro n) (Some w) q e = ap title (sym e.0)
titled Kind.Action (Some w) q e = absurd e
titled Kind.Variable None q e = absurd e
titled (Kind.Procedure n) None q e = absurd e
titled (Kind.Macro n) None q e = absurd e
titled Kind.Action None q e = ap title (sym e)

alike_same : (c d : Definition) (e f : PureDefinition) → Defines c e → Defines d f → alike_definition c d ≡ same_definition e f
alike_same c d e f p q =
    let l = p.level in
    let m = q.level in
    let t = titled c.kind c.name e.kind p.kind in
    let u = titled d.kind d.name f.kind q.kind in
    cc

others_same : (c : Definition) (e : PureDefinition) (ds : List Definition) (es : List PureDefinition) → Defines c e → EachDefines ds es → list_all (λ d. not (alike_definition c d)) ds ≡ list_all (λ f. not (same_definition e f)) es
others_same c e [] [] p m = refl
others_same c e [] (f ∷ es) p m = absurd m
others_same c e (d ∷ ds) [] p m = absurd m
others_same c e (d ∷ ds) (f ∷ es) p m =
    ap (λ b. not b && list_all (λ x. not (alike_definition c x)) ds) (alike_same c d e f p m.0) ∙ ap (λ b. not (same_definition e f) && b) (others_same c e ds es p m.1)

-- no two definitions are alike where none are in the rules
definitions_differ : (ds : List Definition) (es : List PureDefinition) → EachDefines ds es → none_alike alike_definition ds ≡ none_alike same_definition es
definitions_differ [] [] m = refl
definitions_differ [] (e ∷ es) m = absurd m
definitions_differ (d ∷ ds) [] m = absurd m
definitions_differ (d ∷ ds) (e ∷ es) m =
    ap (λ b. b && none_alike alike_definition ds) (others_same d e ds es m.0 m.1) ∙ ap (λ b. list_all (λ f. not (same_definition e f)) es && b) (definitions_differ ds es m.1)

differ_map : {X Y : Type 0} (f : Y → Y → Bool) (g : X → Y) (xs : List X) → none_alike (λ x y. f (g x) (g y)) xs ≡ none_alike f (map g xs)
differ_map f g [] = refl
differ_map f g (x ∷ xs) =
    ap (λ b. b && none_alike (λ x y. f (g x) (g y)) xs) (sym (list_all-map (λ y. not (f (g x) y)) g xs)) ∙ ap (λ b. list_all (λ y. not (f (g x) y)) (map g xs) && b) (differ_map f g xs)

three_parts : (a b c : Bool) → (a && b && c) ≡ true → (a ≡ true) × (b ≡ true) × (c ≡ true)
three_parts a b c t = let p = and_parts (a && b) c t in let q = and_parts a b p.0 in (q.0, q.1, p.1)

three_from : (a b c : Bool) → a ≡ true → b ≡ true → c ≡ true → (a && b && c) ≡ true
three_from a b c p q r = and_from (a && b) c (and_from a b p q) r

-- the definitions that headings and rows make up
abbrev pub assemble : List Heading → List PureRow → List PureDefinition
assemble [] rows = []
assemble (h ∷ hs) rows = record { level = h.level; kind = h.kind; body = tree_of (take h.rows rows) } ∷ assemble hs (drop h.rows rows)

assembled : (ds : List Definition) (hs : List Heading) (rows : List PureRow) → EachHeads ds hs → trees ds rows ≡ true → Definitions ds rows (assemble hs rows)
assembled [] [] rows m t = nil_from_length rows (eqb-true (length rows) 0 t)
assembled [] (h ∷ hs) rows m t = absurd m
assembled (d ∷ ds) [] rows m t = absurd m
assembled (d ∷ ds) (h ∷ hs) rows m t =
    let same = m.0.rows in
    let split = three_parts (leb d.rows (length rows)) (closes 1 (take d.rows rows)) (trees ds (drop d.rows rows)) t in
    let inside : h.rows ≤ length rows = omega (arith, leb-true d.rows (length rows) split.0, same) in
    let tree = tree_rows (take h.rows rows) (ap (λ n. closes 1 (take n rows)) (sym same) ∙ split.1) in
    let count : d.rows ≡ size (tree_of (take h.rows rows)) = same ∙ sym (length-take-le h.rows rows inside) ∙ ap length (sym tree) ∙ length-flat (tree_of (take h.rows rows)) in (
      drop h.rows rows,
      sym (take-append-drop h.rows rows) ∙ ap (λ k. k ++ drop h.rows rows) (sym tree),
      record { level = m.0.level; kind = m.0.kind; rows = count },
      assembled ds hs (drop h.rows rows) m.1 (ap (λ n. trees ds (drop n rows)) (sym same) ∙ split.2),
    )

all_within : (hs : List Heading) (rows : List PureRow) → AllByRecursion HeadingWithin hs → list_all definition_within (assemble hs rows) ≡ true
all_within [] rows a = refl
all_within (h ∷ hs) rows a = and_from _ _ a.0.kind (all_within hs (drop h.rows rows) a.1)

tree_closes : (e : Expr) → closes 1 (flat e) ≡ true
tree_closes e = ap (closes 1) (sym (append-nil (flat e))) ∙ closes_flat e 0 []

-- what lies as the definitions do is trees
trees_from : (ds : List Definition) (rows : List PureRow) (es : List PureDefinition) → Definitions ds rows es → trees ds rows ≡ true
trees_from [] rows [] d = ap (λ (rs : List PureRow). eqb (length rs) 0) d
trees_from [] rows (e ∷ es) d = absurd d
trees_from (x ∷ ds) rows [] d = absurd d
trees_from (x ∷ ds) rows (e ∷ es) d =
    let n : length (flat e.body) ≡ x.rows = length-flat e.body ∙ sym d.2.rows in
    let long : x.rows ≤ length rows = omega (arith, n, ap length d.1, length-append (flat e.body) d.0) in
    let front : take x.rows rows ≡ flat e.body = ap (take x.rows) d.1 ∙ take_at (flat e.body) d.0 x.rows n in
    let back : drop x.rows rows ≡ d.0 = ap (drop x.rows) d.1 ∙ drop_at (flat e.body) d.0 x.rows n in
    and_from _ _ (and_from _ _ (le-leb x.rows (length rows) long) (ap (closes 1) front ∙ tree_closes e.body)) (ap (trees ds) back ∙ trees_from ds d.0 es d.3)

-- headings and rows of the rules' definitions lie as these do
pub lies : (ds : List Definition) (rows : List PureRow) (es : List PureDefinition) → EachHeads ds (map heading es) → rows ≡ rows_of es → Definitions ds rows es
lies [] rows [] m r = r
lies [] rows (e ∷ es) m r = absurd m
lies (d ∷ ds) rows [] m r = absurd m
lies (d ∷ ds) rows (e ∷ es) m r = (
  rows_of es,
  r,
  record { level = m.0.level; kind = m.0.kind; rows = m.0.rows },
  lies ds (rows_of es) es m.1 refl,
)

-- a module whose parts keep their limits says one of the rules where it is whole
pub whole_says : (m : Module) → PartsWithin m → whole m ≡ true → (p : PureModule) × Says m p × WithinLimits p
whole_says m within t =
    let rs = vec_items m.required in
    let ds = vec_items m.definitions in
    let rows = map meant (vec_items m.rows) in
    let hs = within.definitions.0 in
    let es = assemble hs rows in
    let parts = three_parts (few m) (distinct m) (trees ds rows) t in
    let counts = three_parts (leb (length rs) 8) (leb (length ds) 32) (leb (length (vec_items m.rows)) 128) parts.0 in
    let apart = and_parts (none_alike alike_require rs) (none_alike alike_definition ds) parts.1 in
    let says = assembled ds hs rows within.definitions.1 parts.2 in
    let each = each_from ds rows es says in
    let lie = rows_from ds rows es says in (
      record { requires = map require_of rs; definitions = es },
      record { requires = refl; definitions = says },
      record {
        few_requires = omega (arith, leb-true _ _ counts.0, length-map rs require_of);
        requires = within.requires;
        requires_differ = sym (differ_map same_require require_of rs) ∙ apart.0;
        few_definitions = omega (arith, leb-true _ _ counts.1, same_count ds es each);
        definitions = all_within hs rows within.definitions.2;
        definitions_differ = sym (definitions_differ ds es each) ∙ apart.1;
        few_rows = omega (arith, leb-true _ _ counts.2, length-map (vec_items m.rows) meant, ap length lie);
        rows = ap (list_all row_within) (sym lie) ∙ within.rows;
      },
    )

-- and only there
pub says_whole : (m : Module) (p : PureModule) → Says m p → WithinLimits p → whole m ≡ true
says_whole m p says limits =
    let rs = vec_items m.required in
    let ds = vec_items m.definitions in
    let rows = map meant (vec_items m.rows) in
    let es = p.definitions in
    let each = each_from ds rows es says.definitions in
    let lie = rows_from ds rows es says.definitions in
    three_from (few m) (distinct m) (trees ds rows)
    (three_from (leb (length rs) 8) (leb (length ds) 32) (leb (length (vec_items m.rows)) 128)
    (le-leb (length rs) 8 (omega (arith, limits.few_requires, sym (length-map rs require_of) ∙ ap length says.requires)))
    (le-leb (length ds) 32 (omega (arith, limits.few_definitions, same_count ds es each)))
    (le-leb (length (vec_items m.rows)) 128 (omega (arith, limits.few_rows, sym (length-map (vec_items m.rows) meant) ∙ ap length lie))))
    (and_from (none_alike alike_require rs) (none_alike alike_definition ds)
    (differ_map same_require require_of rs ∙ ap (none_alike same_require) says.requires ∙ limits.requires_differ)
    (definitions_differ ds es each ∙ limits.definitions_differ))
    (trees_from ds rows es says.definitions)

-- definitions with the same headings and the same rows are the same
pub same_definitions : (es fs : List PureDefinition) → map heading es ≡ map heading fs → rows_of es ≡ rows_of fs → es ≡ fs
same_definitions [] [] h r = refl
same_definitions [] (f ∷ fs) h r = absurd (let z : ◌≡◌ {A = ℕ} 0 1 = cc in omega arith)
same_definitions (e ∷ es) [] h r = absurd (let z : ◌≡◌ {A = ℕ} 0 1 = cc in omega arith)
same_definitions (e ∷ es) (f ∷ fs) h r =
    let first : heading e ≡ heading f = cc in
    let rest : map heading es ≡ map heading fs = cc in
    let tree : e.body ≡ f.body = ap first_of (sym (forest_flat e.body (rows_of es)) ∙ ap forest r ∙ forest_flat f.body (rows_of fs)) in
    let level : e.level ≡ f.level = ap (λ (x : Heading). x.level) first in
    let kind : e.kind ≡ f.kind = ap (λ (x : Heading). x.kind) first in
    let back : flat e.body ++ rows_of es ≡ flat e.body ++ rows_of fs = r ∙ ap (λ b. flat b ++ rows_of fs) (sym tree) in
    let more' = same_definitions es fs rest (append_cancel_left (flat e.body) (rows_of es) (rows_of fs) back) in
    λ i. record { level = level i; kind = kind i; body = tree i } ∷ more' i
