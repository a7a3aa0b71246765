use Rattle.std.proofs.Common.{◌++◌, map, ap, ◌∙◌, arith}
use Rattle.std.proofs.lemmas.Result.{err_from_is_err_and}
use Rattle.std.specs.List.{flat_map}
use Rattle.fc_wire.specs.Bytes.{u16_bytes, u32_bytes}
use Rattle.fc_wire.specs.Writing.{writing}
use Rattle.fc_path.specs.Canon.{joined, path_written}
use Rattle.fc_path.proofs.Closing.{path_closing, fails_to, joined_more, joined_fails}
use Rattle.fc_path.proofs.write.+write.Goals as goal

pub write_path-returns : goal.write_path-returns
write_path-returns t c =
    path_closing c.args.path.now c.args.to.now c.begin.new.self c.put_u16.new.self c.put_u16-2.new.self c.put_ids.new.to c.write_key.new.to c.write_body.new.to c.end.new.self c.in_ok-begun.begun c.end.result c.in_ok-begun.ensures.begun
    (omega (arith, c.len-count.ensures)) c.in_ok-begun.ensures.ok (c.in_ok-put_u16.ensures.ok ∙ ap (λ n. writing (c.begin.new.self.text ++ u16_bytes n) c.begin.new.self.places) c.flags_of.ensures)
    (c.in_ok-put_u16-2.ensures.ok ∙ ap (λ n. writing (c.put_u16.new.self.text ++ u16_bytes n) c.put_u16.new.self.places) c.len-count.ensures)
    (c.in_ok-put_ids.ensures ∙ ap (λ l. writing (c.put_u16-2.new.self.text ++ flat_map u32_bytes l) c.put_u16-2.new.self.places) c.as_slice.ensures) c.in_ok-write_key.ensures c.in_ok-write_body.ensures c.end.ensures.tlv c.end.ensures.long

pub write_paths-returns-in_err-write_path : goal.write_paths-returns-in_err-write_path
write_paths-returns-in_err-write_path t c =
    let p = err_from_is_err_and c.from_residual.result c.from_residual.ensures.1 in
    rw (p.1, p.2) (fails_to c.in_err-write_path.field-0.0 (path_written c.path-item.result) (joined (map path_written c.args.paths.now)) c.loop-path.to c.write_path.new.to c.args.to.now c.write_path.new.to
    (joined_fails path_written c.args.paths.now c.loop-path.path-index c.path-item.result (omega arith) c.path-item.is) c.in_err-write_path.ensures)

pub write_paths-loop-path-preserved : goal.write_paths-loop-path-preserved
write_paths-loop-path-preserved t c =
    joined_more path_written c.args.paths.now c.loop-path.path-index c.path-item.result c.args.to.now c.loop-path.to c.write_path.new.to (omega arith) c.path-item.is c.loop-path.invariant c.in_ok-write_path.ensures
