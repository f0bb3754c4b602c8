-- While a connection is open, a crash leaves what was committed and nothing else. So a call that leaves no more than before
-- it leaves the rows as they were.
use Rattle.std.proofs.Common.{◌≡◌, IsTrue, sym, ap, subst, ◌∙◌}
use Rattle.sqlite_trees.specs.declared.store.Store.{Ghosts}
use Rattle.sqlite_trees.specs.Tree.{Trees}
use Rattle.sqlite.specs.Effect.{Database}
use Rattle.sqlite.specs.Held.{Held, state}
use Rattle.sqlite.specs.State.{HasCleanDisk}
use Rattle.lab_records_keeper.specs.Worlds.{IsDurable}
use Rattle.lab_store_tables.specs.Rows.{tables_in}
use Rattle.lab_store_tables.specs.Meaning.{meaning}
use Rattle.lab_store_tables.specs.Ready.{IsAtRest, IsReady, PassesBy}
use Rattle.lab_store.specs.StoreWorlds.{world_of}
use Rattle.lab_store.proofs.StoreWorldWords.{SameRows}

module _ {S : Type 0} (g : Ghosts S) (stays : (s : S) → IsTrue (g.view s).is_open → g.recovers s (g.view s).committed)
    (settled : (s : S) (db : Trees) → IsTrue (g.view s).is_open → g.recovers s db → db ≡ (g.view s).committed) where
  -- what a crash may leave is what is shown
  pub left_is : (h : Held S) → IsAtRest (state g h) → HasCleanDisk (state g h) → IsTrue (state g h).is_open → (trees : Trees) → (state g h).may_leave trees
      → trees ≡ (state g h).now.trees
  left_is h rest clean opened trees left = settled h.store trees opened left ∙ sym (ap (λ (db : Database). db.trees) (rest.settled clean opened))

  now_left : (h : Held S) → IsAtRest (state g h) → HasCleanDisk (state g h) → IsTrue (state g h).is_open → (state g h).may_leave (state g h).now.trees
  now_left h rest clean opened =
      subst (λ (trees : Trees). (state g h).may_leave trees) (sym (ap (λ (db : Database). db.trees) (rest.settled clean opened))) (stays h.store opened)

  module _ (old new : Held S) where
    pub trees_stay : IsReady (state g old) → PassesBy (state g old) (state g new) → HasCleanDisk (state g new) → IsTrue (state g new).is_open
        → (state g new).now.trees ≡ (state g old).now.trees
    trees_stay ready passes clean opened =
        left_is old ready.at_rest (passes.clean clean) (passes.live clean opened) (state g new).now.trees
        (passes.crash ready clean (passes.live clean opened) (state g new).now.trees (now_left new (passes.at_rest ready.at_rest) clean opened))

    pub rows_stay : IsReady (state g old) → PassesBy (state g old) (state g new) → HasCleanDisk (state g new) → IsTrue (state g new).is_open
        → SameRows (state g old) (state g new)
    rows_stay ready passes clean opened = ap tables_in (trees_stay ready passes clean opened)

  -- what is kept now is all that a crash may leave
  pub durable_now : (h : Held S) → IsReady (state g h) → HasCleanDisk (state g h) → IsTrue (state g h).is_open → IsDurable (world_of (state g h))
  durable_now h ready clean opened = (
    λ held left code. left.2 code ∙ ap (λ trees. meaning (tables_in trees) code) (left_is h ready.at_rest clean opened left.0 left.1),
    λ trees left. ((state g h).now, ready.kept clean opened, left_is h ready.at_rest clean opened trees left),
  )
