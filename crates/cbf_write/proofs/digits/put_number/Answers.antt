use Rattle.std.proofs.Common.{◌≡◌, ℕ, suc, ◌+◌, ◌-◌, length, arith, ap, sym, ◌∙◌}
use Rattle.std.proofs.lemmas.List.Edits.{sets}
use Rattle.cbf_format.specs.Listing.{printed}
use Rattle.cbf_write.proofs.DigitsLaws.{last_digits, digits_last, digit-put}
use Rattle.cbf_write.proofs.digits.put_number.Goals as goal

pub loop-i-init : goal.loop-i-init
loop-i-init c =
    let a = c.args in
    let e : length (printed a.n) ≡ a.at + c.digit_count.result - a.at = omega arith in
    ap (sets a.out.now a.at) (sym (digits_last 20 a.n ∙ ap (λ (k : ℕ). last_digits k a.n) e))

pub loop-i-preserved : goal.loop-i-preserved
loop-i-preserved c =
    let a = c.args in
    let l = c.loop-i in
    let k = l.i - 1 - a.at in
    let p : a.at + k ≡ l.i - 1 = omega arith in
    let m : suc k ≡ l.i - a.at = omega arith in
    rw (p, m) at (digit-put l.out a.at k l.rest) ∙ l.invariant

pub returns-clause-out_after : goal.returns-clause-out_after
unfolding last_digits
returns-clause-out_after c =
    let l = c.loop-i in
    let z : l.i - c.args.at ≡ 0 = omega arith in
    rw z at l.invariant
