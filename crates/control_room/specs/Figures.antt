-- What a control room asks for: the figures of an intertie and of a holder.
use Rattle.std.specs.Prelude.{ℕ, ◌+◌, Bool, ◌&&◌, List, leb, ltb}
use Rattle.base.specs.Choice.{pick}
use Rattle.base.specs.Limits.{most_interties, most_holders}
use Rattle.state.specs.Layout.{interties, holders, limit_of, outside_of, existing_of, pre_ra_of, new_use_of, unassigned_of, on_intertie}
use Rattle.state.specs.Layout.{step5_share_of, reserved_of, unplaced_of, placed_of, taken_of, locked_of, of_holder}
use Rattle.control_room.specs.Trades.{bought, sold}
use Rattle.control_room.specs.declared.IntertieFigures.{IntertieFigures}
use Rattle.control_room.specs.declared.HolderFigures.{HolderFigures}

-- no more interties and holders than a sheet may have
unfoldable pub sizes_fit : List ℕ → Bool
sizes_fit s = leb (interties s) most_interties && leb (holders s) most_holders

-- whether the state has an intertie, or a holder, of that number
unfoldable pub is_intertie : List ℕ → ℕ → Bool
is_intertie s i = sizes_fit s && ltb i (interties s)

unfoldable pub is_holder : List ℕ → ℕ → Bool
is_holder s h = sizes_fit s && ltb h (holders s)

-- E, P and N of all holders on intertie i
unfoldable pub reserved_on : List ℕ → ℕ → ℕ
reserved_on s i = on_intertie existing_of s i + on_intertie pre_ra_of s i + on_intertie new_use_of s i

-- the figures of intertie i; all 0 where the state has none of that number
unfoldable pub intertie_figures : List ℕ → ℕ → IntertieFigures
intertie_figures s i =
    pick (is_intertie s i)
    (record {
      limit = limit_of s i;
      outside = outside_of s i;
      reserved = reserved_on s i;
      placed = on_intertie placed_of s i;
      taken = on_intertie taken_of s i;
      unassigned = unassigned_of s i;
    })
    (record { limit = 0; outside = 0; reserved = 0; placed = 0; taken = 0; unassigned = 0 })

-- the figures of holder h after the first `count` calls; all 0 where the state has none of that number
unfoldable pub holder_figures : (state calls answers : List ℕ) (count h : ℕ) → HolderFigures
holder_figures s calls answers count h =
    pick (is_holder s h)
    (record {
      step_5_share = step5_share_of s h;
      bought = bought calls answers count h;
      sold = sold calls answers count h;
      placed = of_holder placed_of s h;
      unplaced = unplaced_of s h;
      reserved = reserved_of s h;
      locked = of_holder locked_of s h;
    })
    (record { step_5_share = 0; bought = 0; sold = 0; placed = 0; unplaced = 0; reserved = 0; locked = 0 })
