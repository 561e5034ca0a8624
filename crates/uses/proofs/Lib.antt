pub mod ExpansionLimits
