-- The readers of sets A, B and C meet their promises together. What each does with the answer of its run is one law over the set: at the end
-- of the values the text is read, and at a change the next reader, which has fewer values left, reads what this one owes.
use Rattle.code_sets.specs.Sets.{set_a, set_b, set_c}
use Rattle.code_sets.proofs.ReaderLaws.{ends, hands_on}
use Rattle.code_sets.proofs.readers.+readers.Goals as goal

pub read_a-returns-in-On : goal.read_a-returns-in-On
read_a-returns-in-On t c = ends c.in_ok-n.ensures _ _ c.in-On.is

pub read_a-returns-in-ToA : goal.read_a-returns-in-ToA
read_a-returns-in-ToA t c = hands_on c.in_ok-n.ensures set_a _ _ c.in-ToA.is c.read_a.ensures

pub read_a-returns-in-ToB : goal.read_a-returns-in-ToB
read_a-returns-in-ToB t c = hands_on c.in_ok-n.ensures set_b _ _ c.in-ToB.is c.read_b.ensures

pub read_a-returns-in-ToC : goal.read_a-returns-in-ToC
read_a-returns-in-ToC t c = hands_on c.in_ok-n.ensures set_c _ _ c.in-ToC.is c.read_c.ensures

pub read_b-returns-in-On : goal.read_b-returns-in-On
read_b-returns-in-On t c = ends c.in_ok-n.ensures _ _ c.in-On.is

pub read_b-returns-in-ToA : goal.read_b-returns-in-ToA
read_b-returns-in-ToA t c = hands_on c.in_ok-n.ensures set_a _ _ c.in-ToA.is c.read_a.ensures

pub read_b-returns-in-ToB : goal.read_b-returns-in-ToB
read_b-returns-in-ToB t c = hands_on c.in_ok-n.ensures set_b _ _ c.in-ToB.is c.read_b.ensures

pub read_b-returns-in-ToC : goal.read_b-returns-in-ToC
read_b-returns-in-ToC t c = hands_on c.in_ok-n.ensures set_c _ _ c.in-ToC.is c.read_c.ensures

pub read_c-returns-in-On : goal.read_c-returns-in-On
read_c-returns-in-On t c = ends c.in_ok-n.ensures _ _ c.in-On.is

pub read_c-returns-in-ToA : goal.read_c-returns-in-ToA
read_c-returns-in-ToA t c = hands_on c.in_ok-n.ensures set_a _ _ c.in-ToA.is c.read_a.ensures

pub read_c-returns-in-ToB : goal.read_c-returns-in-ToB
read_c-returns-in-ToB t c = hands_on c.in_ok-n.ensures set_b _ _ c.in-ToB.is c.read_b.ensures

pub read_c-returns-in-ToC : goal.read_c-returns-in-ToC
read_c-returns-in-ToC t c = hands_on c.in_ok-n.ensures set_c _ _ c.in-ToC.is c.read_c.ensures
