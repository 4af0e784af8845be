pub mod OpenedLaws
pub mod StartLaws
pub mod FigureLaws
pub mod WriteLaws
pub mod OpenLaws
pub mod SameLaws
pub mod TableOpening
pub mod UnnamedLaws
