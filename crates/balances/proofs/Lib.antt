pub mod ChangeLaws
pub mod GrantedLaws
pub mod CallLaws
pub mod ListLaws
pub mod BalancesHold
pub mod OrderHolds
