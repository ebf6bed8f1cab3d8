use Rattle.image.specs.Parts.{entries_of}
use Rattle.image.proofs.Filling.{Filling}
use Rattle.image.proofs.lister.Admitted.fill.Given as goal

abbrev pub invariant-loop-n : goal.invariant-loop-n
invariant-loop-n l = Filling (entries_of l.self) l.self.image.now l.initial.out l.out l.at l.n
