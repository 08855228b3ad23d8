use Rattle.std.proofs.Common.{refl, subst}
use Rattle.std.proofs.lemmas.Str.Pattern.{IsSplitOnceResult}
use Rattle.std.proofs.lemmas.Slice.Eq.{slice_eq-Decides}
use Rattle.std.proofs.lemmas.Bool.{false≢true}
use Rattle.std.proofs.lemmas.Bool.Decides.{Decides-eqb}
use Rattle.artefact.proofs.Tables.{title_cut, title_other, title_uncut}
use Rattle.artefact.proofs.reader.Source.header.Goals as goal

pub returns-in-Some : goal.returns-in-Some
returns-in-Some c l =
    title_cut c.args.self.now.rest.now c.args.title.now c.in-Some.line c.in-Some.rest c.in-Some.ensures.cases ((slice_eq-Decides Decides-eqb _ _ _ c.if-eq.ensures).0 refl)

pub returns-in_default : goal.returns-in_default
returns-in_default c l =
    title_other c.args.self.now.rest.now c.args.title.now c.in-Some.line c.in-Some.rest c.in-Some.ensures.cases (λ e. false≢true ((slice_eq-Decides Decides-eqb _ _ _ c.if-eq.ensures).1 e)) l

pub returns-in_default-2 : goal.returns-in_default-2
returns-in_default-2 c l = title_uncut c.args.self.now.rest.now c.args.title.now (subst (IsSplitOnceResult 10 c.args.self.now.rest.now) c.in_default.is c.split_once.ensures.cases) l
