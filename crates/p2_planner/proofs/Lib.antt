mod AttemptLaws
mod PickLaws
mod PlanLaws
mod PreferLaws
mod RootLaws
mod SettleLaws
mod StepLaws
