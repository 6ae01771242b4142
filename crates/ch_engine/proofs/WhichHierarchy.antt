-- Which hierarchy an engine opens with: a saved one, or one that is built.
use Rattle.std.proofs.Common.{◌≢◌, ℕ, List, [], ◌∷◌, length, refl, ap}
use Rattle.ch_graph.specs.Graph.{Network}
use Rattle.ch_graph.specs.Saved.{OrderAndLegs}
use Rattle.ch_hierarchy.specs.Hierarchy.{LevelsAndLegs}
use Rattle.ch_hierarchy.specs.Saved.{NamesHierarchy}
use Rattle.ch_read.specs.Names.{NamesGraph, NamesSaved}
use Rattle.ch_engine.specs.Opened.{IsSavedOrBuilt}
use Rattle.ch_engine.specs.Refusals.{IsOpenError, IsSavedError}
use Rattle.ch_engine.specs.declared.fault.OpenError.{OpenError}

-- with bytes it is the hierarchy that they name
pub saved_named : (g : Network) (bytes : List ℕ) (s : OrderAndLegs) (H : LevelsAndLegs) → length bytes ≢ 0 → NamesSaved bytes g.nodes s →
    NamesHierarchy s H → IsSavedOrBuilt g bytes H
saved_named g [] s H some named of = absurd (some refl)
saved_named g (byte ∷ bytes) s H some named of = (s, named, of)

-- what is wrong with a saved hierarchy of the graph that bytes name is wrong with these bytes and it
pub open_error : (graph saved : List ℕ) (g : Network) (error : OpenError) → NamesGraph graph g → IsSavedError g saved error →
    IsOpenError graph saved error
open_error graph saved g OpenError.NoMemory named is = tt
open_error graph saved g (OpenError.BadGraph f) named is = absurd is
open_error graph saved g (OpenError.BadSaved f) named is = (is.0, (g, named, is.1))
open_error graph saved g (OpenError.WrongSaved f) named is = (g, is.0, named, is.1, is.2)
open_error graph saved g OpenError.Lengths named is = is
open_error graph saved g (OpenError.BadArrays f) named is = is
open_error graph saved g OpenError.OtherNodes named is = is
open_error graph saved g OpenError.FreshRange named is = is

-- a list whose length is not 0 is not empty
pub some_bytes : (bytes : List ℕ) → length bytes ≢ 0 → bytes ≢ []
some_bytes bytes some none = some (ap length none)
