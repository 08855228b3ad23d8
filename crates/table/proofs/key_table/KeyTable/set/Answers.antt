use Rattle.std.proofs.Common.{◌≡◌, Some, None, refl, sym, ◌∙◌, length-set, arith}
use Rattle.std.proofs.lemmas.Result.{err_from_is_err_and}
use Rattle.table.proofs.Places.{no_place, put_maps, put_count, put_fits}
use Rattle.table.proofs.key_table.KeyTable.set.Goals as goal

pub returns-in_err-at-clause-cases : goal.returns-in_err-at-clause-cases
returns-in_err-at-clause-cases g c =
    let none : c.place.result ≡ None = grind arith in
    let r = err_from_is_err_and c.from_residual.result c.from_residual.ensures.1 in
    let h = no_place g.K.PartialEq.eq c.args.self.now.entries.now c.args.key (sym none ∙ c.place.ensures.value) in
    rw r.1 (record { absent = h.0; full = h.1; maps = λ k. refl; count = refl; room = refl })

pub returns-clause-cases : goal.returns-clause-cases
returns-clause-cases g c =
    let there : c.place.result ≡ Some c.in_ok-at.at = grind arith in
    let is = sym there ∙ c.place.ensures.value in
    record {
      maps = λ k. put_maps g.K.PartialEq.eq c.args.self.now.entries.now c.args.key c.in_ok-at.at is g.met.K.Eq.laws c.args.value k;
      count = put_count g.K.PartialEq.eq c.args.self.now.entries.now c.args.key c.in_ok-at.at is c.args.value;
      room = length-set _ _ _;
      fits = put_fits g.K.PartialEq.eq c.args.self.now.entries.now c.args.key c.in_ok-at.at is;
    }
