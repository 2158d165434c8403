pub mod DoneCalls
pub mod RoutingCalls
pub mod DelayCalls
pub mod SilenceCalls
pub mod MaskLaws
