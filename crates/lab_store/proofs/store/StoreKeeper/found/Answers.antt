use Rattle.std.proofs.Common.{rules, ◌≡◌, ℕ, List, Ok, Err, Result, IfErr, refl, subst}
use Rattle.std.specs.Option.{IsSome}
use Rattle.sqlite_trees.specs.declared.store.Store.{Ghosts}
use Rattle.sqlite.specs.State.{State}
use Rattle.sqlite.specs.Held.{Held, state}
use Rattle.lab_records_keeper.specs.declared.faults.PlacingFault.{PlacingFault}
use Rattle.lab_records_keeper.specs.declared.faults.PlacingFault.TheVariants.{LabExists, Storage as NotStored, Memory as NoMemory}
use Rattle.lab_records_kept.specs.Births.{newborn_lab}
use Rattle.lab_records_keeper.specs.Worlds.{Given, Places, PlacingFaultFits}
use Rattle.lab_store_tables.specs.Meaning.{meaning}
use Rattle.lab_store_tables.specs.Ready.{IsReady, tables_of}
use Rattle.lab_store.specs.StoreWorlds.{world_of}
use Rattle.lab_store.specs.Commits.{EndsStep}
use Rattle.lab_store.proofs.Blames.{newborn_blamed}
use Rattle.lab_store.specs.Founding.{IsPlacedBy, IsTaken}
use Rattle.lab_store.proofs.Settled.{durable_now}
use Rattle.lab_store.proofs.Committed.{crashes, stays_safe, made_means, reached, on_lives}
use Rattle.lab_store.proofs.Applied.{places_as, founding_law, founding_given}
use Rattle.lab_store.proofs.Turns.{world_shuts}
use Rattle.lab_store.proofs.store.StoreKeeper.found.Goals as goal

-- a fault says something only where the laboratory is there
taken_alone : {S A : Type 0} (g : Ghosts S) (code : List ℕ) (inside self : Held S) (new : State) (r : Result A PlacingFault) → inside ≡ self
    → (r ≡ Err LabExists → IsReady (state g inside) → IsTaken code (state g inside) new)
    → IfErr r (PlacingFaultFits (Unit {0}) (Given (world_of (state g self)) (world_of new) (IsSome (meaning (tables_of (state g self)) code))))
taken_alone g code inside self new (Ok a) same taken = tt
taken_alone g code inside self new (Err LabExists) same taken =
    λ honest ready. (subst (λ h. IsReady (state g h) → IsTaken code (state g h) new) same (taken refl) ready).there honest
taken_alone g code inside self new (Err NotStored) same taken = tt
taken_alone g code inside self new (Err NoMemory) same taken = tt

pub returns-clause-founds : goal.returns-clause-founds
returns-clause-founds g c =
    let old = state g.S.Store c.args.self.now in
    let new = state g.S.Store c.found.new.tables.conn in
    let newborn = c.args.newborn in
    let steps = IsPlacedBy newborn in
    let means = Places (newborn_lab newborn) in
    let law = founding_law newborn (tables_of old) in
    let ended : IsReady old → EndsStep steps c.found.result old new =
    founding_given g.S.Store newborn c.self.inside.tables.conn c.args.self.now new c.found.result
    c.self.view_is c.found.ensures.ends in
    record {
      founded = λ clean ready. made_means steps means old new ready law c.found.result (ended ready)
          clean;
      err = search rules;
      rows = search rules;
      rows_err = search rules;
      lives = search rules;
      fault = taken_alone g.S.Store newborn.code c.self.inside.tables.conn c.args.self.now new
          c.found.result c.self.view_is c.found.ensures.exists;
      crash = λ clean ready. crashes steps means old new ready law c.found.result (ended ready)
          (places_as (newborn_lab newborn)) clean;
      safe = λ clean ready. stays_safe steps means old new ready law c.found.result (ended ready)
          clean;
      durable = λ clean ready. on_lives steps old new c.found.result (ended ready) clean
          (λ opened. durable_now g.S.Store g.met.S.Store.stays g.met.S.Store.settled
          c.found.new.tables.conn (reached steps means old new ready law c.found.result
          (ended ready)) clean opened);
      quiet = search rules;
      reached = λ clean ready. reached steps means old new ready law c.found.result (ended ready);
      shuts = λ clean ready. world_shuts old new clean (ended ready).shuts;
      passes = search rules;
    }

pub returns-clause-cause : goal.returns-clause-cause
returns-clause-cause g c =
    newborn_blamed g.S.Store c.found.new.tables.conn c.self.inside.tables.conn c.args.self.now
    c.args.newborn c.found.result c.self.view_is c.found.ensures.cause

pub invariant_of-self : goal.invariant_of-self
invariant_of-self g c = record { at_rest = c.found.ensures.at_rest; right = λ _ _ _. tt; opened = λ _. tt }
