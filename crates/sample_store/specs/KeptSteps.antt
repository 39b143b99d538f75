-- What a store keeps after one gift more. The project's own.
use Rattle.std.specs.Prelude.{ℕ, true, false, List, Some, None}
use Rattle.waveform.specs.declared.sample.Sample.{Sample}
use Rattle.sample_store.specs.declared.store.Iterate.{Iterate}
use Rattle.sample_store.specs.Ends.{WindowEnd, end_of_wave}
use Rattle.sample_store.specs.Kept.{Kept}

-- the newest post, with its iteration
abbrev pub newest_kept : Kept → Iterate
newest_kept kept = record { iteration = kept.progress.iteration; wave = kept.newest }

-- the end of the newest post
abbrev pub newest_end : Kept → WindowEnd
newest_end kept = end_of_wave kept.progress.iteration kept.newest

-- after the first post of window w
abbrev pub in_next_window : Kept → (w : ℕ) → List Sample → Kept
in_next_window kept w wave = record {
  progress = record { window = w; iteration = 1; is_accepted = false };
  newest = wave;
  previous = None;
  last = Some (newest_end kept);
  older = kept.last;
}

-- after the post of the same window's iteration k
abbrev pub in_next_iteration : Kept → (k : ℕ) → List Sample → Kept
in_next_iteration kept k wave = record {
  progress = record { window = kept.progress.window; iteration = k; is_accepted = false };
  newest = wave;
  previous = Some (newest_kept kept);
  last = kept.last;
  older = kept.older;
}

-- after the newest post is accepted
abbrev pub after_acceptance : Kept → Kept
after_acceptance kept = record {
  progress = record { window = kept.progress.window; iteration = kept.progress.iteration; is_accepted = true };
  newest = kept.newest;
  previous = kept.previous;
  last = kept.last;
  older = None;
}
