-- The window brings the octets of one pixel at least, and as many as it has octets for are written.
use Prim.Native.Nat.{ℕ, ◌*◌, ◌-◌, ◌<◌, ◌≤◌}
use native.Mathlib.Omega.{arith}
use mathlib.Core.Path.{◌≡◌, refl, sym, ap, ◌∙◌}
use lib.ListN.{length, take, drop, length-drop}
use lib.Seq.{length-take-le}
use borrow.Author.Rules.{part_to_end}
use Rattle.cbf_pixels.proofs.UncompressedPixels.{has-octets}
use Rattle.cbf_unpack.proofs.UncompressedLaws.{loaded}
use Rattle.cbf_unpack.proofs.UnpackingLaws.{uncompressed-ok}
use Rattle.cbf_text.proofs.TextWindowLaws.{all-octets, whole-pixels, loaded-none, loaded-more, some-octets}
use Rattle.cbf_text.proofs.uncompressed_text.unpack_uncompressed.Goals as goal
use Rattle.cbf_text.proofs.uncompressed_text.unpack_uncompressed.Goals.{After-unpack}

-- the window has the octets of the n pixels, and there is one
turn : (c : After-unpack) → (c.min-n.result * c.octets_per-width.result ≤ c.refill.new.self.have) × (0 < c.min-n.result)
turn c =
    let a = c.args in
    let l = c.loop-k in
    let e = c.octets_per-width.ensures in
    let all = all-octets a.kind a.count a.size _ c.requires.4 c.requires.3 ∙ ap (λ (i : ℕ). i * a.count) (sym e.0) in
    let one = some-octets a.kind _ a.file.now a.from a.to _ a.out.now l.invariant.1 c.refill.ensures a.count all (omega arith) e.1 in
    whole-pixels c.min-n.result (a.count - l.k) c.refill.new.self.have _ (omega (arith, has-octets a.kind)) one (omega arith) c.min-n.ensures

pub loop-k-init : goal.loop-k-init
loop-k-init c =
    let a = c.args in
    let p = c.requires in
    (omega arith, loaded-none a.kind _ a.file.now a.from a.to _ a.out.now a.size c.new-w.ensures p.0 p.3 refl)

pub unwrap-requires : goal.unwrap-requires
unwrap-requires c =
    let l = c.loop-k in
    let n = c.min-n.result in
    let os = take (n * c.octets_per-width.result) c.refill.new.self.octets in
    let t = turn (goal.at.unwrap-requires c).After-unpack in
    let many : length os ≡ n * c.octets_per-width.result = length-take-le _ c.refill.new.self.octets (omega (arith, t.0, c.refill.ensures.holds.high)) in
    uncompressed-ok c.args.kind n (length (take (length l.out - l.k) (drop l.k l.out))) os _ (omega arith)
    (many ∙ ap (λ (i : ℕ). n * i) c.octets_per-width.ensures.0 ∙ omega arith)
    (omega (arith, ap length (part_to_end l.out l.k), length-drop l.k l.out)) c.unpack.ensures.answer

pub loop-k-smaller : goal.loop-k-smaller
loop-k-smaller c = let t = turn (goal.at.loop-k-smaller c).After-unpack in omega (arith, t.1)

pub loop-k-preserved : goal.loop-k-preserved
loop-k-preserved c =
    let a = c.args in
    let L = c.loop-k.invariant.1 in
    let t = turn (goal.at.loop-k-preserved c).After-unpack in (
      omega arith,
      loaded-more a.kind _ a.file.now a.from a.to _ a.out.now L c.refill.ensures c.min-n.result _ t.0 c.octets_per-width.ensures.0
          (omega arith) (omega (arith, L.front.size)) c.unpack.ensures.output,
    )

pub returns : goal.returns
returns c =
    let a = c.args in
    let l = c.loop-k in
    loaded a.kind _ _ l.k a.count _ a.out.now l.out refl c.octets_per-width.ensures.0 l.invariant.1.front (omega arith)
    (all-octets a.kind a.count a.size _ c.requires.4 c.requires.3)
