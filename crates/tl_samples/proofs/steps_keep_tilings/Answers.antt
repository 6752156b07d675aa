use Rattle.tl_samples.proofs.Put.{flip-tiling, step-tiling}
use Rattle.tl_samples.proofs.Sweeps.{sweep_class-tiling, sweep-tiling, carried-tiling}
use Rattle.tl_samples.proofs.steps_keep_tilings.Goals as goal

pub returns : goal.returns
returns c = record {
  by_flip = flip-tiling;
  by_step = λ R A v bit placed tiling. step-tiling R A v placed tiling bit;
  by_class = λ R A bits k placed tiling. sweep_class-tiling R placed bits k A tiling;
  by_sweep = λ R A bits placed tiling. sweep-tiling R placed bits A tiling;
  by_sweeps = λ R A bits T placed tiling. carried-tiling R placed bits T A tiling;
}
