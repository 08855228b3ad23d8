use Rattle.std.proofs.Common.{◌≡◌, ◌-◌, length, drop, take, min, refl, ap, ◌∙◌, vec_items, arith}
use Rattle.std.proofs.lemmas.List.{take_all, length-drop}
use Rattle.text.proofs.Trees.{list_closed}
use Rattle.text.proofs.tree.Tree.close.Goals as goal

pub returns-in_ok-list-in-Some-List : goal.returns-in_ok-list-in-Some-List
returns-in_ok-list-in-Some-List c =
    let vs = vec_items c.args.self.now.values in
    let k = c.min-before.result in
    let gone = length-drop k vs in
    let all : take (length vs - k) (drop k vs) ≡ drop k vs = take_all (length vs - k) (drop k vs) (omega (arith, gone)) in
    let l = rw (c.deref.ensures.value, all) at c.in_ok-list-in-Some-List.ensures in
    let count = c.len.ensures ∙ c.args.self.now.values.ok.0 in
    let cut = c.min-before.ensures ∙ ap (λ n. min c.in-Some-List.before n) count in
    list_closed c.args.self.now _ c.add.new.self c.args.at c.in-Some-List.before k c.in_ok-list-in-Some-List.list c.add.result (record { home = refl; grown = l.grown; forms = refl }) refl (rw c.in-Some-List.field-0-is at c.in-Some-List.ensures.items) cut c.truncate.ensures.items l c.add.ensures
