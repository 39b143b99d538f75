-- The meshes that a participant has once those that it receives are there, and the initial post that it can send then.
use Rattle.std.proofs.Common.{◌≡◌, ℕ, ◌<◌, List, [], ◌∷◌, ◌++◌, length, Option, Some, None, Result, Ok, Err, ℤ, refl, ap, sym, ◌∙◌}
use Rattle.std.specs.Prelude.{flat_map}
use Rattle.cpl_plan.specs.declared.parts.PlanParts.{PlanParts}
use Rattle.cpl_plan.specs.declared.words.Fault.{Fault}
use Rattle.mesh_data.specs.declared.any_mesh.AnyMesh.{AnyMesh}
use Rattle.core_sides.specs.declared.event.Event.TheVariants.{Take}
use Rattle.core_sides.specs.declared.event.Reply.TheVariants.{Meshes}
use Rattle.wave_coupling.specs.Known.{Known, provided_by}
use Rattle.wave_coupling.specs.Posts.{Post}
use Rattle.wave_coupling.specs.PostedWaves.{initial_post}
use Rattle.participant_words.specs.Course.{Course, written_next}
use Rattle.participant_words.specs.Deeds.{takes}
use Rattle.participant_words.specs.KnownByReply.{known_by}
use Rattle.participant_words.specs.Replied.{overflowed, posting, replied}
use Rattle.participant_words.specs.Replies.{AreMeshes}
use Rattle.participant_words.specs.declared.phase.EventKind.{EventKind}
use Rattle.participant_words.specs.declared.phase.EventKind.TheVariants.{TakeMeshes}
use Rattle.participant_tables.specs.WriteKept.{WriteKept}
use Rattle.participant_waves.specs.KnownMeshes.{AreMeshesOf, HasMeshes}
use Rattle.participant_state.specs.Kept.{buffers_of}
use Rattle.participant_state.specs.Member.{Member, did}

pub has_meshes : (plan : PlanParts) (part : ℕ) (c : Course) (own meshes : List AnyMesh) → part < length plan.parts
    → AreMeshesOf plan (provided_by plan part part) own → AreMeshes plan part c meshes → HasMeshes plan part own meshes
has_meshes plan part c own meshes there provided are = record {
  participant = there;
  provided = provided;
  got = record {
    many = are.count;
    each = λ k number mesh listed got. let is = are.each k number mesh listed got in record { dimensions = is.dimensions; some = is.some_vertex };
  };
}

-- what is written next, by the entries and by their buffers
written_same : (writes : List WriteKept) → flat_map (λ (values : List ℤ). values) (buffers_of writes) ≡ flat_map (λ (e : WriteKept). e.values) writes
written_same [] = refl
written_same (e ∷ writes) = ap (λ (values : List ℤ). e.values ++ values) (written_same writes)

pub posts_next : (plan : PlanParts) (part : ℕ) (known : Known) (writes : List WriteKept)
    → initial_post plan part known (flat_map (λ (values : List ℤ). values) (buffers_of writes)) ≡ initial_post plan part known (flat_map (λ (e : WriteKept). e.values) writes)
posts_next plan part known writes = ap (initial_post plan part known) (written_same writes)

meshes_taken : (m : Member) (given : List AnyMesh) → m.course.out ≡ Some TakeMeshes → (result : Result Post (Option Fault))
    → initial_post m.plan m.part (known_by m.plan m.part m.course.own given) (written_next m.course) ≡ result
    → did m (takes (Meshes given)) ≡ record m { course = posting result (Take ∷ []) (record m.course { out = None; received = given }) }
meshes_taken m given out result made =
    ap (λ (o : Option EventKind). record m { course = replied m.plan m.part o (Meshes given) m.course }) out
    ∙ ap (λ (r : Result Post (Option Fault)). record m { course = posting r (Take ∷ []) (record m.course { out = None; received = given }) }) made

module _ (m : Member) (meshes given : List AnyMesh) (are : given ≡ meshes) (out : m.course.out ≡ Some TakeMeshes) where
  pub meshes_joined : (waves : Post) → initial_post m.plan m.part (known_by m.plan m.part m.course.own meshes) (written_next m.course) ≡ Ok waves
      → record m { course = posting (Ok waves) (Take ∷ []) (record m.course { out = None; received = given }) } ≡ did m (takes (Meshes meshes))
  meshes_joined waves made =
      ap (λ (g : List AnyMesh). record m { course = posting (Ok waves) (Take ∷ []) (record m.course { out = None; received = g }) }) are
      ∙ sym (meshes_taken m meshes out (Ok waves) made)

  pub meshes_outside : (fault : Fault) → initial_post m.plan m.part (known_by m.plan m.part m.course.own meshes) (written_next m.course) ≡ Err (Some fault)
      → record m { course = overflowed fault (record m.course { out = None; received = given }) } ≡ did m (takes (Meshes meshes))
  meshes_outside fault made =
      ap (λ (g : List AnyMesh). record m { course = overflowed fault (record m.course { out = None; received = g }) }) are
      ∙ sym (meshes_taken m meshes out (Err (Some fault)) made)
