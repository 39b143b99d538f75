-- A valid plan is the plan of the configuration that it is written as.
use Rattle.std.proofs.Common.{◌≡◌, ℕ, true, List, ℤ, pos, Option, refl, ap, ap₂, sym, ◌∙◌}
use Rattle.std.specs.Prelude.{unsigned_abs, unwrap_or}
use Rattle.std.proofs.lemmas.Bool.{eqb-true}
use Rattle.cpl_plan.specs.declared.parts.PlanParts.{PlanParts}
use Rattle.cpl_plan.specs.declared.parts.Part.{Part}
use Rattle.cpl_plan.specs.declared.parts.MeshPlan.{MeshPlan}
use Rattle.cpl_plan.specs.declared.parts.DataPlan.{DataPlan}
use Rattle.cpl_plan.specs.declared.parts.Scheme.{Scheme}
use Rattle.cpl_plan.specs.declared.parts.Exchange.{Exchange}
use Rattle.cpl_plan.specs.declared.parts.WindowMethod.{WindowMethod}
use Rattle.cpl_plan.specs.declared.parts.WindowMethod.TheVariants.{Fixed, FirstParticipant}
use Rattle.cpl_plan.specs.PlanTests.{reaches_end}
use Rattle.cpl_plan.specs.Windows.{windows_to_reach}
use Rattle.cpl_plan.specs.ValidPlan.{IsValidPlan}
use Rattle.cpl_config.specs.declared.config.Config.{Config}
use Rattle.config_laws.specs.FitNumbers.{end_ticks}
use Rattle.plan_build.specs.WindowsOf.{window_method, windows_by}
use Rattle.plan_build.specs.PlanOf.{plan_of, IsPlanOf}
use Rattle.plan_laws.specs.ConfigOfPlan.{window_word, windows_told, config_of_plan}
use Rattle.plan_laws.proofs.NumbersBack.{data_list_back, meshes_back}
use Rattle.plan_laws.proofs.PartsBack.{parts_back}
use Rattle.plan_laws.proofs.ExchangesBack.{exchanges_back}
use Rattle.plan_laws.proofs.SchemesBack.{schemes_back}

method_back : (method : WindowMethod) → window_method (window_word method) ≡ method
method_back Fixed = refl
method_back FirstParticipant = refl

most_back : (method : WindowMethod) (size end most : ℕ) (told : Option ℤ) → told ≡ windows_told method most → reaches_end method size end most ≡ true → (config : Config) → config.max_windows ≡ told → unsigned_abs config.window ≡ size
    → end_ticks config ≡ end → windows_by (window_word method) config ≡ most
most_back Fixed size end most told is reach config windows window ticks = ap₂ windows_to_reach window ticks ∙ sym (eqb-true most (windows_to_reach size end) reach)
most_back FirstParticipant size end most told is reach config windows window ticks = ap (λ (o : Option ℤ). unsigned_abs (unwrap_or o (pos 0))) (windows ∙ is)

module _ (plan : PlanParts) (valid : IsValidPlan plan) where
  plan_back : plan_of (config_of_plan plan) plan.nodes ≡ plan
  plan_back =
      let start : PlanParts = plan_of (config_of_plan plan) plan.nodes in
      ap₂ (λ (method : WindowMethod) (most : ℕ). record start { method = method; most_windows = most }) (method_back plan.method)
      (most_back plan.method plan.window plan.end_time plan.most_windows (windows_told plan.method plan.most_windows) refl valid.sizes.windows_reach (config_of_plan plan) refl refl refl)
      ∙ (ap₂ (λ (parts : List Part) (meshes : List MeshPlan). record plan { parts = parts; meshes = meshes; data_list = start.data_list; schemes = start.schemes; exchanges = start.exchanges }) (parts_back plan valid) (meshes_back plan valid)
      ∙ (ap₂ (λ (items : List DataPlan) (schemes : List Scheme). record plan { data_list = items; schemes = schemes; exchanges = start.exchanges }) (data_list_back plan valid) (schemes_back plan valid)
      ∙ ap (λ (exchanges : List Exchange). record plan { exchanges = exchanges }) (exchanges_back plan valid)))

  pub is_plan_of : IsPlanOf (config_of_plan plan) plan
  is_plan_of = record { said = sym plan_back; ordered = valid.nodes }
