-- What a store keeps, of its fields. The project's own.
use Rattle.std.specs.Prelude.{option_map}
use Rattle.sample_store.specs.EndView.{end_view}
use Rattle.sample_store.specs.Kept.{Kept}
use Rattle.sample_store.specs.declared.store.Store.TheInside.{Inside}

abbrev pub kept_view : Inside → Kept
kept_view store = record {
  progress = record { window = store.window; iteration = store.newest.iteration; is_accepted = store.is_accepted };
  newest = store.newest.wave;
  previous = store.previous;
  last = option_map end_view store.last;
  older = option_map end_view store.older;
}
