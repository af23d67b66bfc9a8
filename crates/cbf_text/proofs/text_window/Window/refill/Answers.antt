-- What was not used is moved to the front, and the octets that were decoded come behind it.
use Rattle.cbf_text.proofs.TextWindowLaws.{moved-front, refilled}
use Rattle.cbf_text.proofs.text_window.Window.refill.Goals as goal

pub returns : goal.returns
returns c =
    let w = c.args.self.now in
    let H = c.requires.2 in
    let d = c.decode-d in
    let e = c.copy_within.ensures in
    refilled c.args.file.now c.args.to w _ _ _ _ H e.len (moved-front w.next w.have w.octets _ H.low H.high e.after) d.ensures.0 _ c.min-got.ensures d.ensures.1
