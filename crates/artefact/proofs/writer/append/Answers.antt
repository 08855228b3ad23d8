use Rattle.std.proofs.Common.{vec_items, ◌++◌, ap, ◌∙◌}
use Rattle.std.specs.List.{flat_map}
use Rattle.std.proofs.lemmas.Result.{IfOk-weaker}
use Rattle.rules.specs.Artefact.{require_header, definition_header, row_header}
use Rattle.artefact.specs.Lines.{require_text, definition_text, row_text}
use Rattle.artefact.proofs.Artefacts.{appended}
use Rattle.artefact.proofs.Puts.{six_put}
use Rattle.artefact.proofs.writer.append.Goals as goal

pub returns : goal.returns
returns c =
    let m = c.args.module.now in
    let requires = c.in_ok-put_all.ensures ∙ ap (λ k. vec_items c.extend_from_slice.new.self ++ flat_map require_text k) c.deref.ensures.value in
    let definitions = c.in_ok-put_all-2.ensures ∙ ap (λ k. vec_items c.extend_from_slice-2.new.self ++ flat_map definition_text k) c.deref-2.ensures.value in
    IfOk-weaker c.put_all-3.result _ _ (λ _ e.
    let rows = e ∙ ap (λ k. vec_items c.extend_from_slice-3.new.self ++ flat_map row_text k) c.deref-3.ensures.value in
    appended m (vec_items c.args.out.now) (vec_items c.put_all-3.new.out) (six_put (vec_items c.args.out.now) (vec_items c.extend_from_slice.new.self) (vec_items c.put_all.new.out) (vec_items c.extend_from_slice-2.new.self) (vec_items c.put_all-2.new.out) (vec_items c.extend_from_slice-3.new.self) (vec_items c.put_all-3.new.out) require_header (flat_map require_text (vec_items m.required)) definition_header (flat_map definition_text (vec_items m.definitions)) row_header (flat_map row_text (vec_items m.rows)) c.in_ok-extend_from_slice.ensures.items requires c.in_ok-extend_from_slice-2.ensures.items definitions c.in_ok-extend_from_slice-3.ensures.items rows)) c.put_all-3.ensures
