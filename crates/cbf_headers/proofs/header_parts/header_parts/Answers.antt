-- Each turn walks over one more line that continues the header.
use Rattle.std.proofs.Common.{rules, arith, sym, ◌∙◌}
use Rattle.cbf_headers.specs.HeaderParts.{HeadersHere}
use Rattle.cbf_headers.proofs.HeaderPartsLaws.{Walked, no_colon, walk_first, walk_more, walk-stop, walk_end}
use Rattle.cbf_headers.proofs.header_parts.header_parts.Goals as goal
use Rattle.cbf_headers.proofs.header_parts.header_parts.Goals.{After-after_end-next, After-after_end-next-in-loop-next}
use Rattle.cbf_headers.proofs.header_parts.header_parts.Goals.{then-loop-next-test+else-blank, else-loop-next-test}

pub after-colon-requires-clause-within : goal.after-colon-requires-clause-within
after-colon-requires-clause-within c = let h = c.requires.0.inside in (omega arith, omega arith)

pub after_text-to-requires : goal.after_text-to-requires
after_text-to-requires c =
    let h = c.requires.0.inside in
    let name = c.after-colon.ensures.run no_colon (λ b r l p. search rules) in
    (name.high, omega arith)

first-line : (c : After-after_end-next) (h : HeadersHere c.args.file.now c.args.from c.args.empty)
    → Walked h c.after-colon.result c.after_text-to.result c.after_end-next.result
first-line c h =
    walk_first h c.requires.1 (c.after-colon.ensures.run no_colon (λ b r l p. search rules)) c.after_text-to.ensures
    c.after_end-next.ensures.0

pub loop-next-init : goal.loop-next-init
loop-next-init c =
    let w = first-line c c.requires.0 in
    record { walked = first-line c; name_in = w.low; value_in = w.short; to_in = w.order; next_in = w.high }

next-line : (c : After-after_end-next-in-loop-next) (h : HeadersHere c.args.file.now c.args.from c.args.empty)
    → Walked h c.after-colon.result c.after_text-to-in-loop-next.result c.after_end-next-in-loop-next.result
next-line c h =
    walk_more h (c.loop-next.invariant.walked h) c.loop-next-test.true (sym c.blank.ensures ∙ c.if-blank.true)
    c.after_text-to-in-loop-next.ensures c.after_end-next-in-loop-next.ensures.0

pub loop-next-preserved : goal.loop-next-preserved
loop-next-preserved c =
    let w = next-line c c.requires.0 in
    record { walked = next-line c; name_in = w.low; value_in = w.short; to_in = w.order; next_in = w.high }

pub returns : goal.returns
returns c h =
    let w = c.loop-next.invariant.walked h in
    elim c.loop-next-test.branch [
      | then-loop-next-test+else-blank u ↦ walk-stop h w u.loop-next-test.true (sym u.blank.ensures ∙ u.if-blank.false)
      | else-loop-next-test u ↦ walk_end h w u.loop-next-test.false
    ]
