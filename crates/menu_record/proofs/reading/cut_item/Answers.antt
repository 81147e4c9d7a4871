use Rattle.menu_record.proofs.Pieces.{cut_is, cut_long}
use Rattle.menu_record.proofs.reading.cut_item.Goals as goal

pub returns-in-Ok : goal.returns-in-Ok
returns-in-Ok c = cut_is c.args.text.now c.piece_end-end.result c.in-Ok.item c.after_piece.result.now c.piece_end-end.ensures c.in-Ok.ensures.0 c.in-Ok.ensures.1 c.after_piece.ensures

pub returns-in-Err : goal.returns-in-Err
returns-in-Err c = (c.in-Err.ensures.0, cut_long c.args.text.now c.piece_end-end.result c.piece_end-end.ensures c.in-Err.ensures.1)
