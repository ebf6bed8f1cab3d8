use borrow.Author.Tests.{lt-ltb, le-ltb, le-leb, lt-leb}
use Rattle.words.specs.Tests.{◌and◌}
use Rattle.flat.specs.Nodes.{header_rest}
use Rattle.flat.proofs.header_rest.Goals as goal

pub returns-then-width-lt1-clause-value : goal.returns-then-width-lt1-clause-value
unfolding header_rest ◌and◌
returns-then-width-lt1-clause-value c = simp (lt-leb _ _ c.if-width-lt1.true)

pub returns-then-width-gt32-clause-value : goal.returns-then-width-gt32-clause-value
unfolding header_rest ◌and◌
returns-then-width-gt32-clause-value c = simp (le-leb _ _ c.if-width-lt1.false, lt-leb _ _ c.if-width-gt32.true)

pub returns-then-nodes-lt1-clause-value : goal.returns-then-nodes-lt1-clause-value
unfolding header_rest ◌and◌
returns-then-nodes-lt1-clause-value c = simp (le-leb _ _ c.if-width-lt1.false, le-leb _ _ c.if-width-gt32.false, lt-leb _ _ c.if-nodes-lt1.true)

pub returns-then-words-nodes-clause-value : goal.returns-then-words-nodes-clause-value
unfolding header_rest ◌and◌
returns-then-words-nodes-clause-value c =
    simp (le-leb _ _ c.if-width-lt1.false, le-leb _ _ c.if-width-gt32.false, le-leb _ _ c.if-nodes-lt1.false, le-ltb _ _ c.if-words-nodes.true)

pub returns-clause-value : goal.returns-clause-value
unfolding header_rest ◌and◌
returns-clause-value c =
    simp (le-leb _ _ c.if-width-lt1.false, le-leb _ _ c.if-width-gt32.false, le-leb _ _ c.if-nodes-lt1.false, lt-ltb _ _ c.if-words-nodes.false)
