-- `requests::faults::put_fault` meets its contract: the front of the line is written, and the rest after it.
use native.Mathlib.Omega.{arith}
use lib.ListN.{length-take, length-drop}
use Rattle.text.proofs.PutsLaws.{puts_then, puts_within}
use Rattle.requests.specs.Texts.{fault_line}
use Rattle.requests.proofs.faults.put_fault.Goals as goal

pub overflow_add-result : goal.overflow_add-result
overflow_add-result c =
    let helped = c.put_help in
    omega (arith, simp (length-take, length-drop) at (puts_within _ _ _ _ helped.ensures helped.auto.out))

pub overflow_add-result-in-Missing : goal.overflow_add-result-in-Missing
overflow_add-result-in-Missing c =
    let described = c.put_described in
    omega (arith, simp (length-take, length-drop) at (puts_within _ _ _ _ described.ensures described.auto.out))

pub overflow_add-result-in-Malformed : goal.overflow_add-result-in-Malformed
overflow_add-result-in-Malformed c =
    let described = c.put_described-in-Malformed in
    omega (arith, simp (length-take, length-drop) at (puts_within _ _ _ _ described.ensures described.auto.out))

pub returns-in-Empty : goal.returns-in-Empty
unfolding fault_line
returns-in-Empty c =
    rw c.in-Empty.is c.put_text.ensures

pub returns-in-NoSuchCall : goal.returns-in-NoSuchCall
unfolding fault_line
returns-in-NoSuchCall c =
    rw c.in-NoSuchCall.is (puts_then _ _ _ _ _ _ _ c.put_text-at.ensures c.put_help.ensures)

pub returns-in-Missing : goal.returns-in-Missing
unfolding fault_line
returns-in-Missing c =
    rw c.in-Missing.is (puts_then _ _ _ _ _ _ _ c.put_text-at-in-Missing.ensures c.put_described.ensures)

pub returns-in-Malformed : goal.returns-in-Malformed
unfolding fault_line
returns-in-Malformed c =
    rw c.in-Malformed.is (puts_then _ _ _ _ _ _ _ c.put_text-at-in-Malformed.ensures c.put_described-in-Malformed.ensures)
