-- Laws about rows laid out.
pub mod Laying
