use Rattle.std.proofs.Common.{ℕ, eqb, List, length, IsUtf8, sym, ap, ◌∙◌, subst}
use Rattle.std.specs.Prelude.{Ok, Err}
use Rattle.artefact.specs.declared.reader.ReadFault.TheVariants.{NotAnArtefact}
use Rattle.std.proofs.lemmas.Result.{err_from_is_err_and}
use Rattle.std.proofs.lemmas.List.{nil_from_length}
use Rattle.std.proofs.lemmas.Bool.{false≢true, eqb-true}
use Rattle.artefact.specs.Tables.{Tables, Read, Refuses, ArtefactOfNone}
use Rattle.artefact.proofs.Artefacts.{artefact_text, read_whole, read_broken, read_more}
use Rattle.artefact.proofs.reader.read.Goals as goal
use Rattle.artefact.proofs.reader.read.Goals.{then-not-is_empty-via-then-not-is_empty, then-not-is_empty-via-else-not-is_empty+then-not-is_whole}

pub returns-in_default : goal.returns-in_default
returns-in_default c p limits is = c.in_default.ensures.cases.0 (subst IsUtf8 is (artefact_text p limits))

pub returns-then-not-is_empty : goal.returns-then-not-is_empty
returns-then-not-is_empty c =
    let rest = c.tables.new.self.rest.now in
    subst (λ b. Read b (Err NotAnArtefact)) c.in-Ok.ensures.cases.0 (elim c.then-not-is_empty.branch [
      | then-not-is_empty-via-then-not-is_empty w ↦ read_more c.in-Ok.text.now rest c.in_ok-module.module c.in_ok-module.ensures (λ e. false≢true (w.if-not-is_empty.ensures ∙ ap (λ (k : List ℕ). eqb (length k) 0) e))
      | then-not-is_empty-via-else-not-is_empty+then-not-is_whole w ↦ read_broken c.in-Ok.text.now rest c.in_ok-module.module c.in_ok-module.ensures (sym w.if-not-is_whole.ensures)
    ])

pub returns : goal.returns
returns c =
    let rest = c.tables.new.self.rest.now in
    let end = nil_from_length rest (eqb-true (length rest) 0 (sym c.if-not-is_empty.ensures)) in
    subst (λ b. Read b (Ok c.in_ok-module.module)) c.in-Ok.ensures.cases.0 (read_whole c.in-Ok.text.now c.in_ok-module.module (subst (λ k. Tables c.in-Ok.text.now k (Ok c.in_ok-module.module)) end c.in_ok-module.ensures) (sym c.if-not-is_whole.ensures))

pub returns-in_err-module : goal.returns-in_err-module
returns-in_err-module c =
    let r = err_from_is_err_and c.from_residual.result c.from_residual.ensures.1 in
    rw (r.1, r.2) (subst (λ b. Refuses (ArtefactOfNone b) c.in_err-module.field-0.0) c.in-Ok.ensures.cases.0 c.in_err-module.ensures)
