use Rattle.std.proofs.Common.{sym, subst}
use Rattle.word.specs.Words.{home_of}
use Rattle.artefact.specs.Fields.{pick, named_arms, GotRow}
use Rattle.artefact.specs.Picks.{got_none, got_some, none_got}
use Rattle.artefact.specs.Rows.{no_home, no_word, homed_row}
use Rattle.artefact.proofs.row.row_from.Goals as goal

pub returns-in_err-home : goal.returns-in_err-home
returns-in_err-home c =
    let f = c.args.fields in
    rw c.from_residual.ensures (none_got _ _ (no_home f.first.now f.second.now f.third.now f.fourth.now f.fifth.now (sym c.if-not-is_homeless.ensures) (got_none _ _ c.in_err-home.ensures)))

pub returns-in_err-word : goal.returns-in_err-word
returns-in_err-word c =
    let f = c.args.fields in
    let h = got_some _ _ c.in_ok-home.home c.in_ok-home.ensures in
    rw c.from_residual-in_err-word.ensures (none_got _ _ (no_word f.first.now f.second.now f.third.now f.fourth.now f.fifth.now (sym c.if-not-is_homeless.ensures) h.0 h.1 c.in_err-word.ensures))

pub returns-then-not-is_homeless : goal.returns-then-not-is_homeless
returns-then-not-is_homeless c =
    let f = c.args.fields in
    let h = got_some _ _ c.in_ok-home.home c.in_ok-home.ensures in
    let w = c.in_ok-word.ensures in
    let spelled = subst (λ s. GotRow (pick f.first.now (named_arms s (home_of c.in_ok-home.home) f.fifth.now)) c.named_row.result) w.1 c.named_row.ensures in
    let homed = subst (λ k. GotRow (pick f.first.now (named_arms f.second.now k f.fifth.now)) c.named_row.result) h.2 spelled in
    rw (homed_row f.first.now f.second.now f.third.now f.fourth.now f.fifth.now (sym c.if-not-is_homeless.ensures) h.0 h.1 w.0) homed
