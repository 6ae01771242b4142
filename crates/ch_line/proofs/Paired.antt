-- The sources of near rows, before a run and after it.
use Rattle.std.proofs.Common.{◌≡◌, ℕ, refl}
use Rattle.ch_job.specs.Job.{sources_map}
use Rattle.ch_job.specs.declared.sources.Sources.{Sources}
use Rattle.ch_line.specs.Inputs.{sources_after, sources_before}

-- sources that a run leaves as what they are, with their input before the run and after it
pub paired_sources : {I : Type 0} (origin : I → ℕ) (old new : Sources I) → sources_map origin new ≡ sources_map origin old →
    (sources : Sources (I × I)) × (sources_before sources ≡ old) × (sources_after sources ≡ new)
paired_sources origin Sources.All Sources.All same = (Sources.All, refl, refl)
paired_sources origin (Sources.Listed old) (Sources.Listed new) same = (Sources.Listed (old, new), refl, refl)
paired_sources origin _ _ same = absurd (let none : ⊥ = cc in none)
