use Rattle.std.proofs.Common.{true, length}
use Rattle.word.specs.Words.{spelling}
use Rattle.store.proofs.Copies.{fetched, copied_fetched, writes_fetched}
use Rattle.store.proofs.copy.copy_entry.Goals as goal

pub returns-in_ok-put-in-Ok : goal.returns-in_ok-put-in-Ok
returns-in_ok-put-in-Ok g c =
    let n = spelling c.args.key.name in
    let k = c.args.key.kind in
    let held = g.A.Store.holds c.args.from.now n k in
    let f = c.in-Ok.ensures in
    let p = c.in_ok-put-in-Ok.ensures in
    let e = fetched held c.args.buffer.now c.fetch.new.out c.in-Ok.len f.value f.after in
    record {
      value = copied_fetched held (length c.args.buffer.now) _ (g.B.Store.accepts c.args.to.now n k) true e p.test;
      after = writes_fetched (g.B.Store.holds c.args.to.now) (g.B.Store.holds c.put.new.self) n k held _ _ e p.after;
      same = tt;
      buffer = f.after;
    }
