pub mod SheetLaws
pub mod TableLaws
mod HeadLaws
mod RuleLaws
mod SlotLaws
mod TallyLaws
mod PassLaws
mod DecideLaws
