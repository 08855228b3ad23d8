use Rattle.std.proofs.Common.{◌<◌, length, vec_items, refl, arith}
use Rattle.artefact.proofs.Pages.{too_long, no_page}
use Rattle.artefact.proofs.writer.write_front.Goals as goal

pub returns-then-n-buffer : goal.returns-then-n-buffer
returns-then-n-buffer c =
    let bytes = vec_items c.in_ok-bytes.bytes in
    let room = length c.args.buffer.now in
    let short : room < length bytes = omega (arith, c.in_ok-bytes.bytes.ok) in
    record {
      front = (too_long c.args.module.now bytes room short c.in_ok-bytes.ensures, refl);
      page = λ p says limits page. absurd (no_page c.args.module.now bytes room short c.in_ok-bytes.ensures p says limits page);
    }
