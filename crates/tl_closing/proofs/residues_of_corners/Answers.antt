use Rattle.tl_closing.proofs.Closing.{residue-step}
use Rattle.tl_closing.proofs.CircuitResidues.{circuit-residues}
use Rattle.tl_closing.proofs.residues_of_corners.Goals as goal

pub returns : goal.returns
returns c = record { along_step = residue-step; along_circuit = circuit-residues }
